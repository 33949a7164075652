-- Which arguments directives take, one after another (java.util.Formatter, "Argument Index").
use Rattle.std.specs.Prelude.{◌≡◌, ℕ, ◌+◌, ◌^◌, ◌%◌, List, [], ◌∷◌, ◌++◌, Option, None, Some}
use Rattle.std.specs.List.{fold}
use Rattle.format_arguments.specs.declared.FormatFault.{FormatFault}
use Rattle.format_arguments.specs.declared.FormatFault.TheVariants.{Invalid, Memory}
use Rattle.numbered_arguments.specs.declared.Kind.{Kind}
use Rattle.numbered_arguments.specs.declared.Numbered.{Numbered}
use Rattle.java_printf_format.specs.declared.collecting.Collected as code
use Rattle.java_printf_format.specs.declared.directive.Which.{Which}
use Rattle.java_printf_format.specs.declared.directive.Which.TheVariants.{Own, Previous, Next}
use Rattle.java_printf_format.specs.declared.directive.Directive.{Directive}

-- what some directives took: the arguments, the number of the next one that is taken without a number, and the number
-- of the last one, if there is one
pub record Taken : Type 0 where
  pub asked : List Numbered
  pub next : ℕ
  pub last : Option ℕ

abbrev pub nothing : Taken
nothing = record { asked = []; next = 1; last = None }

-- the number of the argument at a which; None: there is no argument before
abbrev pub number_at : Which → Taken → Option ℕ
number_at (Own number) taken = Some number
number_at Previous taken = taken.last
number_at Next taken = Some taken.next

-- the next number; GNU gettext counts modulo 2^32
abbrev pub next_behind : Which → ℕ → ℕ
next_behind Next next = (next + 1) % 2 ^ 32
next_behind _ next = next

-- a directive without a kind takes no argument
abbrev pub with_number : Taken → Which → Option Kind → Option ℕ → Option Taken
with_number taken which kind None = None
with_number taken which None (Some number) = Some taken
with_number taken which (Some kind) (Some number) = Some (record {
  asked = taken.asked ++ record { number = number; kind = kind } ∷ [];
  next = next_behind which taken.next;
  last = Some number;
})

-- what had been taken once this directive took its argument; None: it refers to the one before, and there is none
abbrev pub with_one : Taken → Directive → Option Taken
with_one taken d = with_number taken d.which d.kind (number_at d.which taken)

abbrev pub with_one_if : Option Taken → Directive → Option Taken
with_one_if None d = None
with_one_if (Some taken) d = with_one taken d

-- what all of these took
abbrev pub taken_by : List Directive → Option Taken
taken_by directives = fold with_one_if (Some nothing) directives

-- ---- the code's state

abbrev pub taken_view : code.Collected → Taken
taken_view c = record { asked = c.asked.items; next = c.next; last = c.last }

-- the directive can't be added
abbrev pub Blocks : Taken → Directive → FormatFault → Type 0
Blocks taken d Invalid = with_one taken d ≡ None
Blocks taken d Memory = Unit {0}
