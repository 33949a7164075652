use Rattle.std.proofs.Common.{rules}
use Rattle.po_header.proofs.parse.Frame.joins.Goals as goal

pub returns-in-Left : goal.returns-in-Left
returns-in-Left c = search rules
