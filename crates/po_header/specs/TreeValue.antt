-- The value of an expression at n: without signs, modulo 2 ^ 64, as an unsigned long of 64 bits (C standard, 6.5).
use Rattle.std.specs.Prelude.{ℕ, ◌+◌, ◌-◌, ◌*◌, ◌/◌, ◌%◌, ◌^◌, Bool}
use Rattle.std.specs.Prelude.{not, ◌==◌, nat_lt, nat_le, if◌then◌else◌, Option, None, Some}
use Rattle.std.specs.Option.{option_map}
use Rattle.po_header.specs.declared.token.Operator.{Operator}
use Rattle.po_header.specs.declared.token.Operator.TheVariants.{Or, And, Equal, NotEqual, Less, Greater, AtMost}
use Rattle.po_header.specs.declared.token.Operator.TheVariants.{AtLeast, Add, Subtract, Multiply, Divide, Remainder}
use Rattle.po_header.specs.Grammar.{Tree, Variable, Constant, Negation, Binary, Choice}

-- comparisons and logic give 0 or 1 (C standard, 6.5.8, 6.5.9)
abbrev pub truth : Bool → ℕ
truth b = if b then 1 else 0

-- whether a number counts as true
abbrev pub truth_of : ℕ → ℕ
truth_of x = truth (not (x == 0))

-- `!` (C standard, 6.5.3.3)
abbrev pub opposite : ℕ → ℕ
opposite x = truth (x == 0)

-- the operator applied to two values; none if either is missing
abbrev pub both : (ℕ → ℕ → Option ℕ) → Option ℕ → Option ℕ → Option ℕ
both f None right = None
both f (Some x) None = None
both f (Some x) (Some y) = f x y

-- `||`: the right side is evaluated only if the left is 0 (C standard, 6.5.14)
abbrev pub either : Option ℕ → Option ℕ → Option ℕ
either None right = None
either (Some x) right = if x == 0 then option_map truth_of right else Some 1

-- `&&`: the right side is evaluated only if the left isn't 0 (C standard, 6.5.13)
abbrev pub conjunction : Option ℕ → Option ℕ → Option ℕ
conjunction None right = None
conjunction (Some x) right = if x == 0 then Some 0 else option_map truth_of right

-- `? :`: only the side that is chosen is evaluated (C standard, 6.5.15)
abbrev pub choice : Option ℕ → Option ℕ → Option ℕ → Option ℕ
choice None chosen other = None
choice (Some x) chosen other = if x == 0 then other else chosen

-- an operator applied to the values of its sides; division and remainder by 0 have no value (C standard, 6.5.5)
abbrev pub operator_value : Operator → Option ℕ → Option ℕ → Option ℕ
operator_value Or left right = either left right
operator_value And left right = conjunction left right
operator_value Equal left right = both (λ x y. Some (truth (x == y))) left right
operator_value NotEqual left right = both (λ x y. Some (truth (not (x == y)))) left right
operator_value Less left right = both (λ x y. Some (truth (nat_lt x y))) left right
operator_value Greater left right = both (λ x y. Some (truth (nat_lt y x))) left right
operator_value AtMost left right = both (λ x y. Some (truth (nat_le x y))) left right
operator_value AtLeast left right = both (λ x y. Some (truth (nat_le y x))) left right
operator_value Add left right = both (λ x y. Some ((x + y) % 2 ^ 64)) left right
operator_value Subtract left right = both (λ x y. Some ((x + (2 ^ 64 - y)) % 2 ^ 64)) left right
operator_value Multiply left right = both (λ x y. Some ((x * y) % 2 ^ 64)) left right
operator_value Divide left right = both (λ x y. if y == 0 then None else Some (x / y)) left right
operator_value Remainder left right = both (λ x y. if y == 0 then None else Some (x % y)) left right

-- the value at n, if there is one
abbrev pub value : Tree → ℕ → Option ℕ
value Variable n = Some n
value (Constant v) n = Some v
value (Negation operand) n = option_map opposite (value operand n)
value (Binary operator left right) n = operator_value operator (value left n) (value right n)
value (Choice condition chosen other) n = choice (value condition n) (value chosen n) (value other n)
