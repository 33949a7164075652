use Rattle.po_checks.proofs.Checking.{FormFaults}
use Rattle.po_checks.proofs.formats.form_faults.Given as goal

abbrev pub invariant-forms : goal.invariant-forms
invariant-forms l = FormFaults l.original l.rule l.entry.forms l.k l.faults
