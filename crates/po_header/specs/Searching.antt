-- Private: what follows a word in a text, as a function.
use Rattle.std.specs.Prelude.{ℕ, Bool, not, ◌||◌, ◌==◌, nat_eq, if◌then◌else◌, List}
use Rattle.std.specs.Prelude.{[], ◌∷◌, length, drop, Option, None, Some}
use Rattle.std.specs.List.{starts_with}

-- what follows the first occurrence of the word
abbrev pub behind_first : List ℕ → List ℕ → Option (List ℕ)
behind_first word [] = None
behind_first word (b ∷ text) =
    if starts_with nat_eq (b ∷ text) word then Some (drop (length word) (b ∷ text)) else behind_first word text

-- neither space nor tab nor LF
abbrev pub is_charset_byte : ℕ → Bool
is_charset_byte b = not (b == 32 || b == 9 || b == 10)
