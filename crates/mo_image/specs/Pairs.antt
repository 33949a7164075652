-- The entries that originals and translations make up, split at their NULs (GNU gettext manual, "MO Files").
use Rattle.std.specs.Prelude.{◌≡◌, ℕ, ◌<◌, ◌==◌, List, [], ◌∷◌, length, slice_index, Option, option_map}
use Rattle.std.specs.List.{before_first}
use Rattle.mo_image.specs.Entry.{Entry}
use Rattle.mo_image.specs.Parts.{cut, entry_from}

-- the key: what precedes an original's NUL, or all of it
abbrev pub key_part : List ℕ → List ℕ
key_part o = before_first (λ b. b == 0) o

-- the plural: what follows an original's NUL, if it has one
abbrev pub plural_part : List ℕ → Option (List ℕ)
plural_part o = option_map (λ p. p.1) (cut 0 o)

abbrev pub entry_of : List ℕ → List ℕ → Entry
entry_of o t = entry_from (key_part o) (plural_part o) t

abbrev pub paired_entries : List (List ℕ) → List (List ℕ) → List Entry
paired_entries [] ts = []
paired_entries (o ∷ os) [] = []
paired_entries (o ∷ os) (t ∷ ts) = entry_of o t ∷ paired_entries os ts

-- the byte at this offset is a NUL
pub record HasNulAt (text : List ℕ) (offset : ℕ) : Type 0 where
  pub within : offset < length text
  pub nul : slice_index text offset ≡ 0
