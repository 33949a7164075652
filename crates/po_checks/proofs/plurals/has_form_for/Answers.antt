use Rattle.std.proofs.Common.{rules}
use Rattle.po_checks.proofs.plurals.has_form_for.Goals as goal

pub returns-in-Some : goal.returns-in-Some
returns-in-Some c = search rules
