use Rattle.std.proofs.Common.{rules}
use Rattle.po_checks.proofs.kept.is_kept.Goals as goal

pub returns-else-options-clause-is : goal.returns-else-options-clause-is
returns-else-options-clause-is c = search rules
