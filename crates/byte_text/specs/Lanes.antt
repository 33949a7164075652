-- The lanes of a vector that pass a test.
use Rattle.std.specs.Prelude.{ℕ, ◌==◌, if◌then◌else◌}
use Rattle.std.specs.Int.{w64, trailing_zeros}

-- the index of the lowest set bit, or the number of lanes if no bit is set
abbrev pub first_set : ℕ → ℕ → ℕ
first_set mask lanes = if mask == 0 then lanes else trailing_zeros w64 mask
