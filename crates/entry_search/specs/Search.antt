-- The cost of a search, in comparisons of keys.
use Rattle.std.specs.Prelude.{ℕ, ◌+◌, ◌≤◌, length}
use Rattle.std.specs.Int.Digits.{digits_of}

-- the number of binary digits: none for 0, and one for 1
abbrev pub digits : ℕ → ℕ
digits n = length (digits_of 2 n)

-- the count of steps grows from `old` to `new` by at most the number of binary digits of n
pub record AtMostDigits (n old new : ℕ) : Type 0 where
  pub counted : old ≤ new
  pub cost : new ≤ old + digits n
