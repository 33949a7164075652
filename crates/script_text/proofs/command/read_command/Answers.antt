use Rattle.std.proofs.Common.{rules}
use Rattle.script_text.proofs.command.read_command.Goals as goal

pub returns-in_ok-end-in-go : goal.returns-in_ok-end-in-go
returns-in_ok-end-in-go c = search rules
