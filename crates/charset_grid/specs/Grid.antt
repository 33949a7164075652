-- The characters of two bytes: a row for each first byte, and a column for each second one.
use Rattle.std.specs.Prelude.{ℕ, ◌-◌, ◌||◌, nat_lt, if◌then◌else◌, List, [], get_or}

-- the code points row by row; a cell has none if it is 0, or isn't there
pub record Cells : Type 0 where
  -- the first byte of the first row, and the second byte of the first column
  pub first_row : ℕ
  pub first_column : ℕ
  pub rows : List (List ℕ)

-- the code point of two bytes, 0 if they have none
abbrev pub cell : Cells → ℕ → ℕ → ℕ
cell cells first second =
    if nat_lt first cells.first_row || nat_lt second cells.first_column then 0
    else get_or (get_or cells.rows (first - cells.first_row) []) (second - cells.first_column) 0
