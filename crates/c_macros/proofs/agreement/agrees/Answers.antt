use Rattle.std.proofs.Common.{rules, drop, length}
use Rattle.std.proofs.lemmas.Slice.Eq.{slice_eq-Decides, starts_is}
use Rattle.c_macros.proofs.agreement.agrees.Goals as goal

pub returns-in-Same : goal.returns-in-Same
returns-in-Same c = rw c.in-Same.is (slice_eq-Decides (λ a b. search rules) c.args.original.now c.args.form.now
    c.eq.result c.eq.ensures)

pub returns-in-Prefix : goal.returns-in-Prefix
returns-in-Prefix c =
    let decides = starts_is (λ a b. search rules) c.args.original.now c.args.form.now c.starts_with.result
    c.starts_with.ensures.value in
    rw c.in-Prefix.is (
      λ e. (drop (length c.args.form.now) c.args.original.now, decides.0 e),
      λ prefix. decides.1
          prefix.0 prefix.1,
    )
