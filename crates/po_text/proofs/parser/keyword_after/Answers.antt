use Rattle.std.proofs.Common.{rules}
use Rattle.po_text.proofs.parser.keyword_after.Goals as goal

pub returns-in-Id : goal.returns-in-Id
returns-in-Id c = search rules
