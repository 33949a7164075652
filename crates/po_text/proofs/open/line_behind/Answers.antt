use Rattle.std.proofs.Common.{rules}
use Rattle.po_text.proofs.open.line_behind.Goals as goal

pub returns : goal.returns
returns c = search rules
