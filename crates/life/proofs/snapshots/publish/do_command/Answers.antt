use Rattle.life.proofs.Common.{rules}
use Rattle.life.proofs.snapshots.publish.do_command.Goals as goal

pub returns-in-Ok-clause-does : goal.returns-in-Ok-clause-does
returns-in-Ok-clause-does c = search rules
