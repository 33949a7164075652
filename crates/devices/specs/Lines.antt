-- The lines of a text.
use Rattle.std.specs.Prelude.{ℕ, Bool, ◌==◌, if◌then◌else◌, List, [], ◌∷◌}
use Rattle.std.specs.List.{onto_first, before_first}

-- the pieces of a list, each with the element that ends it; the last one may lack its end
abbrev pub pieces : {X : Type 0} → (X → Bool) → List X → List (List X)
pieces ends [] = []
pieces ends (x ∷ xs) = if ends x then (x ∷ []) ∷ pieces ends xs else onto_first x (pieces ends xs)

-- LF
abbrev pub is_line_end : ℕ → Bool
is_line_end b = b == 10

-- a line has its LF; the last one may lack it (ISO C, text streams)
abbrev pub lines : List ℕ → List (List ℕ)
lines text = pieces is_line_end text

-- what a line says
abbrev pub without_end : List ℕ → List ℕ
without_end line = before_first is_line_end line
