-- A map from keys to entries, as the list of its entries in rising order of their keys (GNU gettext manual, "MO
-- Files").
use Rattle.std.specs.Prelude.{◌≡◌, ℕ, ◌≤◌, List, [], ◌∷◌, length, map, ⊤, Option, option_map, IfSome}
use Rattle.std.specs.List.{AllByRecursion, find}
use Rattle.std.specs.Ordering.{nat_cmp}
use Rattle.std.specs.declared.cmp.Ordering.TheVariants.{Less}
use Rattle.std.specs.Cmp.Lexicographic.{slice_cmp}
use Rattle.std.specs.Str.{bytes_eq}
pub use Rattle.message.specs.Charset.{HasAcceptedCharset}
pub use Rattle.message.specs.Message.{first_form}
use Rattle.mo_image.specs.Entry.{Entry, key, IsLawfulEntry}
use Rattle.mo_image.specs.MoFile.{most_file, spelling}

-- each key is above the one before it, byte by byte
abbrev pub Rises : List (List ℕ) → Type 0
Rises [] = ⊤
Rises (k ∷ []) = ⊤
Rises (k ∷ l ∷ ks) = (slice_cmp nat_cmp k l ≡ Less) × Rises (l ∷ ks)

-- the entry with this key, if there is one
abbrev pub entry_at : List Entry → List ℕ → Option Entry
entry_at m k = find (λ e. bytes_eq (key e) k) m

-- the header's text: the first form of the entry with no context and the empty msgid (GNU gettext manual, "Header
-- Entry")
abbrev pub header_text : List Entry → Option (List ℕ)
header_text m = option_map (λ e. first_form e.forms) (entry_at m [])

-- what every catalogue represents
pub record IsLawful (m : List Entry) : Type 0 where
  pub rises : Rises (map key m)
  pub each : AllByRecursion IsLawfulEntry m
  pub charset : IfSome (header_text m) HasAcceptedCharset
  pub fits : length (spelling m) ≤ most_file

-- these bytes are the one MO file of a lawful map
pub record IsFileOf (bytes : List ℕ) (m : List Entry) : Type 0 where
  pub lawful : IsLawful m
  pub spelt : bytes ≡ spelling m
