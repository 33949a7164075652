-- A text, split at the first occurrence of a byte.
use Rattle.std.specs.Prelude.{◌≡◌, ℕ, ◌<◌, ◌==◌, nat_lt, if◌then◌else◌, List, length, Option, Some, None}
use Rattle.std.specs.List.{position_or_len, before_first, after_first}

-- the index of the first such byte, or the length of the text if there is none
abbrev pub offset_of : ℕ → List ℕ → ℕ
offset_of byte text = position_or_len (λ b. b == byte) text

-- what comes before the first such byte, and what follows it
abbrev pub cut : ℕ → List ℕ → Option (List ℕ × List ℕ)
cut byte text =
    if nat_lt (offset_of byte text) (length text)
    then Some (before_first (λ b. b == byte) text, after_first (λ b. b == byte) text)
    else None

-- the text has such a byte, with front before the first one and behind after it
pub record IsCut (byte : ℕ) (text front behind : List ℕ) : Type 0 where
  pub within : offset_of byte text < length text
  pub front_is : front ≡ before_first (λ b. b == byte) text
  pub behind_is : behind ≡ after_first (λ b. b == byte) text
