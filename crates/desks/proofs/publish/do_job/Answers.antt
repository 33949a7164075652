use Rattle.std.proofs.Common.{rules}
use Rattle.desks.proofs.publish.do_job.Goals as goal

pub returns-else-is_err-clause-err : goal.returns-else-is_err-clause-err
returns-else-is_err-clause-err g c = search rules
