use Rattle.std.proofs.Common.{take}
use Rattle.desks.proofs.Jobs.{Playing}
use Rattle.desks.proofs.publish.do_jobs.Given as goal

abbrev pub invariant-loop-index : goal.invariant-loop-index
invariant-loop-index g l = Playing l.fn.publisher (take l.index l.jobs) l.outcomes.items l.publisher
