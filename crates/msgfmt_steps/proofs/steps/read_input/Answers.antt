use Rattle.std.proofs.Common.{rules}
use Rattle.msgfmt_steps.proofs.steps.read_input.Goals as goal

pub returns-in-Ok-clause-read : goal.returns-in-Ok-clause-read
returns-in-Ok-clause-read g c = search rules
