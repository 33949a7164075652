use Rattle.catalogue_map.proofs.Kit.{◌≡◌, take, map, string_bytes, join_with_byte}
use Rattle.catalogue_map.proofs.sorted.translation_of.Given as goal

abbrev pub invariant-forms : goal.invariant-forms
invariant-forms l = string_bytes l.text ≡ join_with_byte 0 (take l.k (map (λ s. string_bytes s) l.forms))
