-- What directives ask for, with numbers.
pub use Rattle.script_formats.specs.Collecting.{is_next}
use Rattle.std.specs.Prelude.{◌≡◌, ℕ, Bool, false, not, ◌==◌, List, ◌++◌, Option, None, Some}
use Rattle.std.specs.List.{list_any}
use Rattle.numbered_arguments.specs.declared.Request.{Request}
use Rattle.numbered_arguments.specs.NumberedArguments.{list_of}
use Rattle.numbered_arguments.specs.NumberingStates.{HasNumbered}
use Rattle.gcc_internal_format.specs.declared.directive.Directive.{Directive}
use Rattle.gcc_internal_format.specs.declared.collecting.Collected.{Collected}

-- what a directive asks for, in this order
abbrev pub asks : Directive → List Request
asks d = list_of d.precision ++ list_of d.argument

abbrev pub is_argument : Option ℕ → Bool
is_argument None = false
is_argument (Some number) = not (number == 0)

-- a number of its own: not that of the error number
abbrev pub is_own : Request → Bool
is_own r = is_argument r.number

-- ---- the code's state

pub record HasCollected (requests : List Request) (collected : Collected) : Type 0 where
  pub numbered : HasNumbered requests collected.numbering
  pub own : collected.own ≡ list_any is_own requests
  pub next : collected.next ≡ list_any is_next requests

-- these were also collected
abbrev pub Adds : Collected → Collected → List Request → Type 0
Adds old new more = (requests : List Request) → HasCollected requests old → HasCollected (requests ++ more) new
