-- Private: what functions guarantee about tokens and blanks.
use Rattle.std.specs.Prelude.{◌≡◌, ℕ, false, List, [], ◌∷◌}
use Rattle.po_header.specs.Tokens.{PieceAt, Piece, is_blank}

-- no blank is at the front
abbrev pub StopsBlanks : List ℕ → Type 0
StopsBlanks [] = Unit {0}
StopsBlanks (b ∷ more) = is_blank b ≡ false

-- no piece is at the front
abbrev pub IsStray : List ℕ → Type 0
IsStray text = (piece : Piece) (rest : List ℕ) → ¬ PieceAt piece text rest
