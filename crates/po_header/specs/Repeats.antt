-- Expressions whose values from 100 on depend only on the last two digits, and tables of values (GNU gettext manual,
-- "Plural forms").
use Rattle.std.specs.Prelude.{◌≡◌, ℕ, ◌<◌, ◌≤◌, ◌+◌, ◌%◌, List, length, slice_index, Some}
use Rattle.po_header.specs.declared.token.Operator.{Operator}
use Rattle.po_header.specs.Grammar.{Tree}
use Rattle.po_header.specs.TreeValue.{value, operator_value}

-- the number from 100 to 199 with the same last two digits
abbrev pub folded_number : ℕ → ℕ
folded_number n = 100 + n % 100

-- from 100 on, folding n keeps the value
pub record Repeats (tree : Tree) : Type 0 where
  pub again : (n : ℕ) → 100 ≤ n → value tree (folded_number n) ≡ value tree n

-- from 100 on, folding n keeps how it compares with the bound
pub record IsSettled (operator : Operator) (bound : ℕ) : Type 0 where
  pub same : (n : ℕ) → 100 ≤ n
      → operator_value operator (Some (folded_number n)) (Some bound) ≡ operator_value operator (Some n) (Some bound)

-- folding n keeps its remainder by the modulus
pub record IsPart (modulus : ℕ) : Type 0 where
  pub some : 0 < modulus
  pub same : (n : ℕ) → folded_number n % modulus ≡ n % modulus

-- the values at 0, 1, 2 and so on, as far as the list goes
pub record AreFirst (values : List ℕ) (tree : Tree) : Type 0 where
  pub at : (n : ℕ) → n < length values → value tree n ≡ Some (slice_index values n)
