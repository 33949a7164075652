use Rattle.std.proofs.Common.{rules}
use Rattle.script_text.proofs.command.Line.text_lines.Goals as goal

pub returns-in-Loads : goal.returns-in-Loads
returns-in-Loads c = search rules
