use Rattle.std.proofs.Common.{rules}
use Rattle.po_header.proofs.repeats.is_settled.Goals as goal

pub returns-in-Equal : goal.returns-in-Equal
returns-in-Equal c = search rules
