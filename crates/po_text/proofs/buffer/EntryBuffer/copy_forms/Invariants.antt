use Rattle.std.proofs.Common.{◌≡◌, map, take}
use Rattle.std.specs.Prelude.{string_bytes}
use Rattle.po_text.proofs.buffer.EntryBuffer.copy_forms.Given as goal

abbrev pub invariant-forms : goal.invariant-forms
invariant-forms l = map (λ form. string_bytes form) l.forms.items ≡ take l.k l.self.forms
