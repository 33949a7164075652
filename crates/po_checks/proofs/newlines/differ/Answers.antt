use Rattle.std.proofs.Common.{rules}
use Rattle.po_checks.proofs.newlines.differ.Goals as goal

pub returns-else-begins : goal.returns-else-begins
returns-else-begins c = search rules
