use Rattle.std.proofs.Common.{take}
use Rattle.std.specs.Prelude.{◌↔◌, IsTrue}
use Rattle.std.specs.List.{Any}
use Rattle.dependent_po.specs.Formats.{Differs}
use Rattle.dependent_po.proofs.formats.some_form_differs.Given as goal

abbrev pub invariant-forms : goal.invariant-forms
invariant-forms l = IsTrue l.some ↔ Any (Differs l.original l.rule) (take l.k l.entry.forms)
