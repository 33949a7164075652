-- What the look-ups return (GNU gettext manual, "Interface to gettext"; "Plural forms").
use Rattle.std.specs.Prelude.{◌≡◌, ℕ, ◌==◌, nat_lt, if◌then◌else◌, List, length, Option, Some, None, MatchOption}
use Rattle.std.specs.Prelude.{slice_get}
use denote.Ref.{Bor}
use Rattle.po_header.specs.Rule.{Rule, form_index}
pub use Rattle.po_header.specs.Rule.{HasRuleIn}
use Rattle.mo_image.specs.Entry.{Entry}
use Rattle.mo_image.specs.Map.{entry_at, header_text}
use Rattle.mo_image.specs.MoFile.{with_nul}

-- the entry of a key, and the map that it was found in
abbrev pub IsFoundAt : List Entry → List ℕ → Option (Bor (List Entry) × Entry) → Type 0
IsFoundAt m key found = MatchOption found (entry_at m key ≡ None)
    (λ f. (f.0.now ≡ m) × (entry_at m key ≡ Some f.1))

-- the first form of the entry that was found, or the msgid
abbrev pub IsFirstForm : Option Entry → List ℕ → List ℕ → Type 0
IsFirstForm None id text = text ≡ id
IsFirstForm (Some e) id text = slice_get e.forms 0 ≡ Some text

-- the rule of a map is the one in its header (GNU gettext manual, "Plural forms")
abbrev pub HasMapRule : List Entry → Rule → Type 0
HasMapRule m rule = HasRuleIn (header_text m) rule

-- the form with this index, or the first one if there is no such form
abbrev pub form_or_first : List (List ℕ) → ℕ → Option (List ℕ)
form_or_first forms k = slice_get forms (if nat_lt k (length forms) then k else 0)

-- the form that the rule selects for n
abbrev pub IsFormFor : Rule → ℕ → List (List ℕ) → List ℕ → Type 0
IsFormFor rule n forms text = form_or_first forms (form_index rule n) ≡ Some text

-- the form that the map's rule selects for n
abbrev pub IsMapFormFor : List Entry → ℕ → List (List ℕ) → List ℕ → Type 0
IsMapFormFor m n forms text = (rule : Rule) × HasMapRule m rule × IsFormFor rule n forms text

-- the form for n of the entry that was found, or the other text
abbrev pub IsCounted : List Entry → Option Entry → ℕ → List ℕ → List ℕ → Type 0
IsCounted m None n other text = text ≡ other
IsCounted m (Some e) n other text = IsMapFormFor m n e.forms text

-- the msgid for 1, and the plural for any other number
abbrev pub text_by : ℕ → List ℕ → List ℕ → List ℕ
text_by n id plural = if n == 1 then id else plural

-- the form that is asked for: the first one or, with a number, the one for that number
abbrev pub IsAskedForm : List Entry → Option ℕ → List (List ℕ) → List ℕ → Type 0
IsAskedForm m None forms text = slice_get forms 0 ≡ Some text
IsAskedForm m (Some n) forms text = IsMapFormFor m n forms text

-- the form of the entry that was found, or none if there is no entry
abbrev pub IsTranslated : List Entry → Option Entry → Option ℕ → Option (List ℕ) → Type 0
IsTranslated m None n text = text ≡ None
IsTranslated m (Some e) n None = ⊥
IsTranslated m (Some e) n (Some text) = IsAskedForm m n e.forms text

-- the form that is asked for as a C string: followed by a NUL
abbrev pub IsFormWithNulFor : List Entry → Option ℕ → List (List ℕ) → List ℕ → Type 0
IsFormWithNulFor m n forms bytes = (text : List ℕ) × IsAskedForm m n forms text × (bytes ≡ with_nul text)

-- the form of the entry that was found as a C string, or none if there is no entry
abbrev pub IsTranslatedWithNul : List Entry → Option Entry → Option ℕ → Option (List ℕ) → Type 0
IsTranslatedWithNul m None n bytes = bytes ≡ None
IsTranslatedWithNul m (Some e) n None = ⊥
IsTranslatedWithNul m (Some e) n (Some bytes) = IsFormWithNulFor m n e.forms bytes
