use Rattle.std.proofs.Common.{arith}
use Rattle.mo_image.proofs.Originals.{lacks_from}
use Rattle.entry_search.proofs.find.Sought.new.Goals as goal

pub invariant_of-result : goal.invariant_of-result
invariant_of-result c so = lacks_from 0 c.args.id.now (omega (arith, c.lacks_byte.ensures.0 so))
