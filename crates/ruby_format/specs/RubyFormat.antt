-- Formats, and the arguments that they ask for.
use Rattle.std.specs.Prelude.{◌≡◌, ℕ, Bool, true, false, ◌&&◌, if◌then◌else◌, List, [], ◌∷◌, ◌++◌, map, Option, None}
use Rattle.std.specs.Prelude.{Some, is_some}
use Rattle.std.specs.List.{fold, list_all, flat_map}
use Rattle.std.specs.Map.{lookup}
use Rattle.std.specs.BTreeMap.{insert_entry, is_at}
use Rattle.std.specs.Ordering.{nat_cmp}
use Rattle.format_arguments.specs.declared.FormatFault.{FormatFault}
use Rattle.format_arguments.specs.declared.FormatFault.TheVariants.{Invalid, Memory}
use Rattle.format_arguments.specs.declared.Kind.{Kind}
use Rattle.format_arguments.specs.Arguments.{Argument, is_consistent, same_kind}
use Rattle.format_arguments.specs.Text.{IsFormat}
use Rattle.ruby_format.specs.RubyPieces.{percent, Way, Next, Number, Name}
use Rattle.ruby_format.specs.RubyDirectives.{Directive, DirectiveAt, Reference, references}

-- ---- one way to all arguments

abbrev pub same_way : Way → Way → Bool
same_way Next Next = true
same_way (Number one) (Number other) = true
same_way (Name one) (Name other) = true
same_way _ _ = false

abbrev pub suits : Option Way → Way → Bool
suits None way = true
suits (Some asked) way = same_way asked way

-- the way to the last argument that is asked for
abbrev pub asked_after : Option Way → Reference → Option Way
asked_after asked r = if is_some r.kind then Some r.to else asked

-- each is by the way of what is asked for before it: so `%1$% %s` is a format, and `%s %1$%` is none
abbrev pub are_one_way : Option Way → List Reference → Bool
are_one_way asked [] = true
are_one_way asked (r ∷ more) = suits asked r.to && are_one_way (asked_after asked r) more

-- ---- the arguments by their numbers

abbrev pub with_number : List (ℕ × Kind) → Way → Option Kind → List (ℕ × Kind)
with_number kinds (Number number) (Some kind) = insert_entry nat_cmp kinds number kind
with_number kinds _ _ = kinds

-- the kinds, with that of an argument that is asked for by its number at its place
abbrev pub kinds_with : List (ℕ × Kind) → Reference → List (ℕ × Kind)
kinds_with kinds r = with_number kinds r.to r.kind

-- the numbers that are asked for, in rising order, each once, with its kind
abbrev pub by_number : List Reference → List (ℕ × Kind)
by_number rs = fold kinds_with [] rs

abbrev pub is_kind : Option Kind → Kind → Bool
is_kind None kind = false
is_kind (Some found) kind = same_kind found kind

abbrev pub kind_fits : List (ℕ × Kind) → Way → Option Kind → Bool
kind_fits kinds (Number number) (Some kind) = is_kind (lookup (is_at (nat_cmp number)) kinds) kind
kind_fits kinds _ _ = true

-- each is of the kind that its number has here
abbrev pub kinds_fit : List (ℕ × Kind) → List Reference → Bool
kinds_fit kinds rs = list_all (λ r. kind_fits kinds r.to r.kind) rs

-- ---- the arguments of one format

abbrev pub argument : Option (List ℕ) → Kind → Argument
argument name kind = record { name = name; kind = kind }

-- the argument that is asked for by its name, or as the next one
abbrev pub other_asked : Way → Option Kind → Option Argument
other_asked Next (Some kind) = Some (argument None kind)
other_asked (Name name) (Some kind) = Some (argument (Some name) kind)
other_asked _ _ = None

abbrev pub list_of : Option Argument → List Argument
list_of None = []
list_of (Some a) = a ∷ []

abbrev pub others : List Reference → List Argument
others rs = flat_map (λ r. list_of (other_asked r.to r.kind)) rs

-- those with numbers come by their rank: GNU gettext compares `%3$s` with `%5$s`
abbrev pub arguments : List Reference → List Argument
arguments rs = map (λ entry. argument None entry.1) (by_number rs) ++ others rs

-- one way leads to all arguments, and each number and each name has one kind
abbrev pub fits : List Reference → Bool
fits rs = are_one_way None rs && kinds_fit (by_number rs) rs && is_consistent (arguments rs)

-- the text is a format that asks for these arguments
abbrev pub HasSignature : List ℕ → List Argument → Type 0
HasSignature text asked = (directives : List Directive) × IsFormat percent DirectiveAt directives text
    × (asked ≡ arguments (flat_map references directives)) × (fits (flat_map references directives) ≡ true)

-- the text has this fault; Memory says nothing about the text
abbrev pub HasFault : List ℕ → FormatFault → Type 0
HasFault text Invalid = (asked : List Argument) → ¬ HasSignature text asked
HasFault text Memory = Unit {0}
