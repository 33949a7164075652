use Rattle.std.proofs.Common.{suc, sym}
use Rattle.python_brace_format.proofs.FieldLemmas.{access_shorter, accesses_more}
use Rattle.python_brace_format.proofs.fields.skip_accesses.Goals as goal

pub accesses-smaller : goal.accesses-smaller
accesses-smaller c = access_shorter c.accesses.rest.now c.in-Some.after.now c.in-Some.ensures

pub accesses-preserved : goal.accesses-preserved
accesses-preserved c = (
  suc c.accesses.invariant.0,
  accesses_more c.accesses.invariant.0 c.args.text.now c.accesses.rest.now c.in-Some.after.now
      c.accesses.invariant.1 (sym c.in-Some.ensures),
)
