-- What a text begins with.
use Rattle.std.specs.Prelude.{◌≡◌, ℕ, Bool, not, ◌&&◌, ◌==◌, nat_eq, if◌then◌else◌, List, [], ◌∷◌, length, take, drop}
use Rattle.std.specs.Prelude.{Option, None, Some}
use Rattle.std.specs.List.{list_any, prefix_len, starts_with}
use Rattle.std.specs.Char.{is_ascii_digit}

-- the bytes at the front that pass the test, as many as there are
abbrev pub run : (ℕ → Bool) → List ℕ → List ℕ
run test text = take (prefix_len test text) text

-- what follows them
abbrev pub behind : (ℕ → Bool) → List ℕ → List ℕ
behind test text = drop (prefix_len test text) text

-- what follows one byte that passes the test, which may be left out
abbrev pub behind_one : (ℕ → Bool) → List ℕ → List ℕ
behind_one test [] = []
behind_one test (b ∷ more) = if test b then more else b ∷ more

abbrev pub BeginsNot : ℕ → List ℕ → Type 0
BeginsNot b text = (rest : List ℕ) → ¬ (text ≡ b ∷ rest)

-- what follows the word, if the text begins with it
abbrev pub behind_word : List ℕ → List ℕ → Option (List ℕ)
behind_word word text = if starts_with nat_eq text word then Some (drop (length word) text) else None

abbrev pub is_one_of : List ℕ → ℕ → Bool
is_one_of letters b = list_any (λ letter. b == letter) letters

-- 1 to 9
abbrev pub is_first_digit : ℕ → Bool
is_first_digit b = is_ascii_digit b && not (b == 48)
