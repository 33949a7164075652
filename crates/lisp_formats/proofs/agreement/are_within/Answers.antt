use Rattle.std.proofs.Common.{rules, ◌≡◌, false, length, inl, inr, arith}
use Rattle.std.specs.Prelude.{nat_lt}
use Rattle.std.proofs.lemmas.Bool.{cases_Bool, ltb-true}
use Rattle.std.proofs.lemmas.Iterator.{YieldsList-from_slice, YieldsList-from_zip}
use Rattle.std.proofs.lemmas.Iterator.Consumers.{YieldsList-at}
use Rattle.std.proofs.lemmas.Iterator.Search.{all_from_yields_List}
use Rattle.lisp_formats.specs.LispAgreement.{is_within}
use Rattle.lisp_formats.proofs.agreement.are_within.Goals as goal

pub returns-then-original-translation : goal.returns-then-original-translation
returns-then-original-translation c =
    let no_fewer : nat_lt (length c.args.translation.now) (length c.args.original.now) ≡ false =
    elim (cases_Bool (nat_lt (length c.args.translation.now) (length c.args.original.now))) [
      | inl e ↦ absurd (omega (arith, ltb-true _ _ e, c.if-original-translation.true))
      | inr e ↦ e
    ] in
    rw no_fewer (all_from_yields_List (λ pair. is_within pair.1 pair.0) c.all.new.self _ _ c.all.ensures.ran
    (YieldsList-from_zip (YieldsList-at c.zip.ensures.first (YieldsList-from_slice c.args.original.now
    c.iter.ensures.rest)) (YieldsList-at c.zip.ensures.second (YieldsList-from_slice c.args.translation.now
    c.iter-then-original-translation.ensures.rest))) (λ x b q k. search rules))
