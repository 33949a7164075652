use Rattle.life.proofs.Common.{rules}
use Rattle.life.proofs.publish.do_command.Goals as goal

pub returns-in-Ok-clause-does : goal.returns-in-Ok-clause-does
returns-in-Ok-clause-does g c = search rules

pub returns-in-Err-clause-does : goal.returns-in-Err-clause-does
returns-in-Err-clause-does g c = search rules

pub returns-in-Ok-publish-clause-does : goal.returns-in-Ok-publish-clause-does
returns-in-Ok-publish-clause-does g c = search rules

pub returns-in-Err-publish-clause-does : goal.returns-in-Err-publish-clause-does
returns-in-Err-publish-clause-does g c = search rules
