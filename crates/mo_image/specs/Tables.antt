-- Where strings lie in an MO file (GNU gettext manual, "MO Files").

-- `number` reads the file's words; it is little_number or big_number.
use Rattle.std.specs.Prelude.{ℕ, zero, suc, ◌+◌, List, [], ◌∷◌, take, drop}

-- the word of 32 bits at a offset
abbrev pub word_at : (ℕ → List ℕ → ℕ) → List ℕ → ℕ → ℕ
word_at number bytes offset = number 4 (drop offset bytes)

-- the string that the row at this offset names, by its length and its offset
abbrev pub string_at : (ℕ → List ℕ → ℕ) → List ℕ → ℕ → List ℕ
string_at number bytes offset = take (word_at number bytes offset) (drop (word_at number bytes (offset + 4)) bytes)

-- the strings of the n rows from this offset on
abbrev pub strings : (ℕ → List ℕ → ℕ) → List ℕ → ℕ → ℕ → List (List ℕ)
strings number bytes offset zero = []
strings number bytes offset (suc n) = string_at number bytes offset ∷ strings number bytes (offset + 8) n
