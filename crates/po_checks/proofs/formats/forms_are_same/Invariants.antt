use Rattle.std.proofs.Common.{take}
use Rattle.std.specs.List.{Any}
use Rattle.po_checks.specs.Findings.{Strays}
use Rattle.po_checks.proofs.formats.forms_are_same.Given as goal

abbrev pub invariant-forms : goal.invariant-forms
invariant-forms l = ¬ Any (Strays l.entry.id) (take l.k l.entry.forms)
