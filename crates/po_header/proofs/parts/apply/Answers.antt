use Rattle.std.proofs.Common.{rules}
use Rattle.po_header.proofs.parts.apply.Goals as goal

pub returns-in-Divide : goal.returns-in-Divide
returns-in-Divide c = search rules
