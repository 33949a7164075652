-- The charset that a header names (GNU gettext manual, "Header Entry": Content-Type).
use Rattle.std.specs.Prelude.{◌≡◌, ◌≢◌, ℕ, ◌≤◌, not, ◌||◌, ◌==◌, List, [], ◌∷◌, ◌++◌, length, Option, None, Some, codes}
use Rattle.std.specs.List.{take_while, Contains}
use Rattle.std.specs.Str.{str_to_ascii_lowercase}

-- the word occurs in the text between before and after, and nowhere after a shorter before
pub record StandsFirst (word text before after : List ℕ) : Type 0 where
  pub split : text ≡ before ++ word ++ after
  pub first : (b a : List ℕ) → text ≡ b ++ word ++ a → length before ≤ length b

-- what follows the first occurrence of the word
abbrev pub Follows : List ℕ → List ℕ → List ℕ → Type 0
Follows word text after = (before : List ℕ) × StandsFirst word text before after

-- the word doesn't occur in the text
abbrev pub LacksWord : List ℕ → List ℕ → Type 0
LacksWord word text = (before after : List ℕ) → text ≢ before ++ word ++ after

-- the text up to a space, a tab, LF or the end
abbrev pub up_to_white : List ℕ → List ℕ
up_to_white text = take_while (λ b. not (b == 32 || b == 9 || b == 10)) text

-- the charset that the text names: what follows its first `charset=`, up to white space; none without a `charset=`
abbrev pub NamesCharset : List ℕ → Option (List ℕ) → Type 0
NamesCharset text (Some name) = (after : List ℕ) × Follows (codes "charset=") text after × (name ≡ up_to_white after)
NamesCharset text None = LacksWord (codes "charset=") text

-- UTF-8, its subset ASCII, and the placeholder that templates have for a charset
abbrev pub accepted_charsets : List (List ℕ)
accepted_charsets = codes "utf-8" ∷ codes "utf8" ∷ codes "us-ascii" ∷ codes "ascii" ∷ codes "charset" ∷ []

-- ASCII case doesn't matter
abbrev pub IsAcceptedCharset : List ℕ → Type 0
IsAcceptedCharset name = Contains accepted_charsets (str_to_ascii_lowercase name)

-- a header's text names no charset, or one that is accepted
pub record HasAcceptedCharset (text : List ℕ) : Type 0 where
  pub accepted : (name : List ℕ) → NamesCharset text (Some name) → IsAcceptedCharset name
