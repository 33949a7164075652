use Rattle.std.proofs.Common.{rules}
use Rattle.msgfmt_steps.proofs.steps.write_output.Goals as goal

pub returns-in-Ok-clause-written : goal.returns-in-Ok-clause-written
returns-in-Ok-clause-written g c = search rules
