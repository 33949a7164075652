use Rattle.std.proofs.Common.{rules}
use Rattle.po_text.proofs.open.open_text.Goals as goal

pub returns-clause-read : goal.returns-clause-read
returns-clause-read c = search rules
