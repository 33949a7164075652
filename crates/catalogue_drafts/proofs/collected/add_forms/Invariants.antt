use Rattle.catalogue_drafts.proofs.Kit.{◌≡◌, ◌++◌, take, string_bytes, join_with_byte}
use Rattle.catalogue_drafts.proofs.collected.add_forms.Given as goal

abbrev pub invariant-forms : goal.invariant-forms
invariant-forms l = string_bytes l.texts ≡ string_bytes l.fn.texts ++ join_with_byte 0 (take l.k l.entry.forms)
