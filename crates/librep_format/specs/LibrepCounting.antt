-- Which arguments directives take: one with a number goes to that argument, and each goes on behind the one it takes.
use Rattle.std.specs.Prelude.{◌≡◌, ℕ, ◌+◌, ◌^◌, ◌%◌, List, [], ◌∷◌, ◌++◌, Option, None, Some}
use Rattle.std.specs.Option.{unwrap_or}
use Rattle.numbered_arguments.specs.declared.Kind.{Kind}
use Rattle.numbered_arguments.specs.declared.Numbered.{Numbered}
use Rattle.librep_format.specs.declared.parts.Directive.{Directive}
use Rattle.librep_format.specs.declared.counting.Counted.{Counted}

-- the argument that a directive goes to, where this one is next
abbrev pub number_from : ℕ → Directive → ℕ
number_from next d = unwrap_or d.number next

-- the argument of this number, if the directive asks for one
abbrev pub argument_of_number : ℕ → Option Kind → List Numbered
argument_of_number number None = []
argument_of_number number (Some kind) = record { number = number; kind = kind } ∷ []

-- the one that is next then; GNU gettext counts arguments modulo 2^32
abbrev pub behind : ℕ → Option Kind → ℕ
behind number None = number
behind number (Some kind) = (number + 1) % 2 ^ 32

-- the arguments that directives ask for, where this one is next
abbrev pub numbered_from : ℕ → List Directive → List Numbered
numbered_from next [] = []
numbered_from next (d ∷ more) = argument_of_number (number_from next d) d.kind
    ++ numbered_from (behind (number_from next d) d.kind) more

abbrev pub numbered_arguments : List Directive → List Numbered
numbered_arguments directives = numbered_from 1 directives

-- ---- the code's state

-- the one that is next after directives
abbrev pub next_behind : ℕ → List Directive → ℕ
next_behind next [] = next
next_behind next (d ∷ more) = next_behind (behind (number_from next d) d.kind) more

-- all that these ask for was collected
pub record HasCounted (directives : List Directive) (counted : Counted) : Type 0 where
  pub asked : counted.asked.items ≡ numbered_arguments directives
  pub next : counted.next ≡ next_behind 1 directives

-- this argument was also collected
pub record Takes (old new : Counted) (number : ℕ) (kind : Kind) : Type 0 where
  pub asked : new.asked.items ≡ old.asked.items ++ argument_of_number number (Some kind)
  pub next : new.next ≡ behind number (Some kind)

-- what this one asks for was also collected
abbrev pub Adds : Counted → Counted → Directive → Type 0
Adds old new d = (directives : List Directive) → HasCounted directives old → HasCounted (directives ++ d ∷ []) new
