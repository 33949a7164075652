use Rattle.std.proofs.Common.{rules}
use Rattle.po_text.proofs.units.escape_value.Goals as goal

pub returns-in-118 : goal.returns-in-118
returns-in-118 c = search rules
