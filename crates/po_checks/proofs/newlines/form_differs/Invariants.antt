use Rattle.std.proofs.Common.{take}
use Rattle.std.specs.List.{Any}
use Rattle.po_checks.specs.Findings.{NewlinesDiffer}
use Rattle.po_checks.proofs.newlines.form_differs.Given as goal

abbrev pub invariant-forms : goal.invariant-forms
invariant-forms l = ¬ Any (NewlinesDiffer l.entry.id) (take l.k l.entry.forms)
