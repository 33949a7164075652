use Rattle.std.proofs.Common.{rules}
use Rattle.po_header.proofs.fields.missing_fields.Goals as goal

pub returns : goal.returns
returns c = search rules
