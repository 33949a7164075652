-- The number that decimal digits spell.
use Rattle.std.specs.Prelude.{ℕ, ◌+◌, ◌-◌, ◌*◌, List}
use Rattle.std.specs.List.{fold}

-- decimal digits as a number
abbrev pub decimal_value : List ℕ → ℕ
decimal_value digits = fold (λ n d. 10 * n + (d - 48)) 0 digits
