-- The code point of a cell is that of a character, if those of all cells are.
use Rattle.std.proofs.Common.{◌≡◌, ℕ, zero, suc, ◌-◌, ◌&&◌, ◌||◌, nat_lt, Bool, true, false, if◌then◌else◌, List}
use Rattle.std.proofs.Common.{[], ◌∷◌, get_or, refl, sym, ap, subst, ◌∙◌}
use lib.Utf8.{scalar}
use Rattle.std.specs.Char.{IsScalar}
use Rattle.charset_grid.specs.Grid.{Cells, cell}

abbrev pub are_scalars : List ℕ → Bool
are_scalars [] = true
are_scalars (c ∷ codes) = scalar c && are_scalars codes

abbrev pub have_scalars : List (List ℕ) → Bool
have_scalars [] = true
have_scalars (row ∷ rows) = are_scalars row && have_scalars rows

abbrev pub AreScalars : Cells → Type 0
AreScalars cells = have_scalars cells.rows ≡ true

pub choice : (first : Bool) (cells other : Cells) → AreScalars cells → AreScalars other
    → AreScalars (if first then cells else other)
choice true cells other h h' = h
choice false cells other h h' = h'

both_true : (a b : Bool) → (a && b) ≡ true → (a ≡ true) × (b ≡ true)
both_true true b h = (refl, h)
both_true false b h = absurd (cc h)

in_row : (codes : List ℕ) (i : ℕ) → are_scalars codes ≡ true → IsScalar (get_or codes i 0)
in_row [] i h = refl
in_row (c ∷ codes) zero h = (both_true _ _ h).0
in_row (c ∷ codes) (suc i) h = in_row codes i (both_true (scalar c) _ h).1

row_at : (rows : List (List ℕ)) (i : ℕ) → have_scalars rows ≡ true → are_scalars (get_or rows i []) ≡ true
row_at [] i h = refl
row_at (row ∷ rows) zero h = (both_true _ _ h).0
row_at (row ∷ rows) (suc i) h = row_at rows i (both_true (are_scalars row) _ h).1

unless : (outside : Bool) (c : ℕ) → IsScalar c → IsScalar (if outside then 0 else c)
unless true c h = refl
unless false c h = h

pub of_cell : (cells : Cells) (first second : ℕ) → AreScalars cells → IsScalar (cell cells first second)
of_cell cells first second h = unless (nat_lt first cells.first_row || nat_lt second cells.first_column) _
    (in_row (get_or cells.rows (first - cells.first_row) []) (second - cells.first_column)
    (row_at cells.rows (first - cells.first_row) h))

-- that of the result of a grid whose cells are these
pub of_code : (grid cells : Cells) (first second code : ℕ) → code ≡ cell grid first second → grid ≡ cells
    → AreScalars cells → IsScalar code
of_code grid cells first second code is same h =
    subst IsScalar (sym (is ∙ ap (λ (of : Cells). cell of first second) same)) (of_cell cells first second h)
