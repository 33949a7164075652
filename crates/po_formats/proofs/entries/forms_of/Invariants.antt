use Rattle.std.proofs.Common.{◌≡◌, map, take}
use Rattle.po_formats.proofs.entries.forms_of.Given as goal

abbrev pub invariant-forms : goal.invariant-forms
invariant-forms l = map (λ form. form.now) l.forms.items ≡ take l.k l.entry.forms
