-- An entry by its key, its plural and its translation (GNU gettext manual, "MO Files").
use Rattle.std.specs.Prelude.{ℕ, ◌==◌, List, [], Option, Some, None, option_map}
use Rattle.std.specs.List.{slice_split}
use denote.Ref.{Bor}
pub use Rattle.byte_text.specs.Cut.{cut}
use Rattle.mo_image.specs.Entry.{Entry}

-- the part after the cut, or the whole text if there is no cut
abbrev pub behind : List ℕ → Option (List ℕ × List ℕ) → List ℕ
behind text None = text
behind text (Some p) = p.1

-- the entry of these strings: the key is split at its EOT, and the translation at each NUL
abbrev pub entry_from : List ℕ → Option (List ℕ) → List ℕ → Entry
entry_from key plural translation = record {
  context = option_map (λ p. p.0) (cut 4 key);
  id = behind key (cut 4 key);
  plural = plural;
  forms = slice_split (λ b. b == 0) translation;
}

-- the forms that are left, with NUL between them
abbrev pub forms_left : Option (Bor (List ℕ)) → List (List ℕ)
forms_left None = []
forms_left (Some text) = slice_split (λ b. b == 0) text.now
