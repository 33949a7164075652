-- The fields of a line.
use Rattle.std.specs.Prelude.{ℕ, Bool, ◌==◌, List}
use Rattle.std.specs.List.{slice_split}

-- a tab
abbrev pub is_tab : ℕ → Bool
is_tab b = b == 9

-- the fields of a line, with one tab between each two
abbrev pub fields : List ℕ → List (List ℕ)
fields text = slice_split is_tab text
