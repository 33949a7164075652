-- Arguments that a format asks for by their numbers, and when those of two formats agree.
use Rattle.std.specs.Prelude.{ℕ, ◌+◌, ◌^◌, Bool, false, ◌&&◌, ◌==◌, if◌then◌else◌, List, [], ◌∷◌, Option, None, Some}
use Rattle.std.specs.Prelude.{◌%◌}
use Rattle.std.specs.List.{fold, list_all}
use Rattle.std.specs.Option.{unwrap_or}
use Rattle.byte_text.specs.Decimal.{decimal_value}
use Rattle.format_arguments.specs.declared.Strictness.{Strictness}
use Rattle.format_arguments.specs.declared.Strictness.TheVariants.{Same, Lenient}
use Rattle.numbered_arguments.specs.declared.Kind.{Kind}
use Rattle.numbered_arguments.specs.declared.Numbered.{Numbered}
use Rattle.numbered_arguments.specs.declared.Request.{Request}
use Rattle.numbered_arguments.specs.NumberedKinds.{same_kind, kinds_fit}

-- ---- numbers

-- the number that digits spell; GNU gettext counts arguments modulo 2^32
abbrev pub number_of : List ℕ → ℕ
number_of digits = decimal_value digits % 2 ^ 32

-- an argument's own number, or the next one
abbrev pub number_or : Option ℕ → ℕ → ℕ
number_or own next = unwrap_or own next

-- the next number after an argument: one with a number of its own doesn't count
abbrev pub next_after : Option ℕ → ℕ → ℕ
next_after None next = (next + 1) % 2 ^ 32
next_after (Some own) next = next

-- the arguments that are asked for, where this is the next number
abbrev pub numbered_from : ℕ → List Request → List Numbered
numbered_from next [] = []
numbered_from next (r ∷ more) =
    record { number = number_or r.number next; kind = r.kind } ∷ numbered_from (next_after r.number next) more

abbrev pub numbered_requests : List Request → List Numbered
numbered_requests requests = numbered_from 1 requests

-- what a directive asks for: one argument, or none
abbrev pub list_of : Option Request → List Request
list_of None = []
list_of (Some r) = r ∷ []

-- ---- the arguments of one format

-- the kind of the last argument of this number
abbrev pub kind_at : ℕ → List Numbered → Option Kind
kind_at number asked = fold (λ kind a. if a.number == number then Some a.kind else kind) None asked

abbrev pub is_kind : Option Kind → Kind → Bool
is_kind None kind = false
is_kind (Some found) kind = same_kind found kind

-- the argument is asked for, of this kind
abbrev pub has : List Numbered → Numbered → Bool
has asked a = is_kind (kind_at a.number asked) a.kind

-- each of the ones is asked for by the others too, of the same kind
abbrev pub are_covered : List Numbered → List Numbered → Bool
are_covered ones others = list_all (has others) ones

-- each number has one kind
abbrev pub is_consistent : List Numbered → Bool
is_consistent asked = are_covered asked asked

-- ---- the arguments of two formats

abbrev pub is_fit : Option Kind → Kind → Bool
is_fit None kind = false
is_fit (Some found) kind = kinds_fit found kind

-- the argument is asked for, of a kind that one object can be too
abbrev pub has_fit : List Numbered → Numbered → Bool
has_fit asked a = is_fit (kind_at a.number asked) a.kind

-- each of the ones is asked for by the others too, and one object can be what both ask for
abbrev pub fits_in : List Numbered → List Numbered → Bool
fits_in ones others = list_all (has_fit others) ones

-- the numbers and their kinds are the same; leniently, the translation leaves some out, and one object can be what both
-- ask for by a number
abbrev pub agree : List Numbered → List Numbered → Strictness → Bool
agree original translation Same = are_covered original translation && are_covered translation original
agree original translation Lenient = fits_in translation original

-- the argument, as if it had this kind
abbrev pub of_kind : Kind → Numbered → Numbered
of_kind kind a = record { number = a.number; kind = kind }
