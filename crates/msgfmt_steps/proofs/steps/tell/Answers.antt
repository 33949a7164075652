use Rattle.std.proofs.Common.{rules}
use Rattle.msgfmt_steps.proofs.steps.tell.Goals as goal

pub returns-in-Err-clause-told : goal.returns-in-Err-clause-told
returns-in-Err-clause-told g c = search rules
