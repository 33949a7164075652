-- Private: sums that saturate at the largest number of 64 bits.
use Rattle.std.specs.Prelude.{ℕ, ◌-◌, ◌^◌, min}

-- a number, or 2^64 - 1 if it is larger
abbrev pub capped_number : ℕ → ℕ
capped_number n = min n (2 ^ 64 - 1)
