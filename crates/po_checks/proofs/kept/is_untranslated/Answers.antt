use Rattle.std.proofs.Common.{rules}
use Rattle.po_checks.proofs.kept.is_untranslated.Goals as goal

pub returns-else-form_count-eq0-clause-is : goal.returns-else-form_count-eq0-clause-is
returns-else-form_count-eq0-clause-is c = search rules
