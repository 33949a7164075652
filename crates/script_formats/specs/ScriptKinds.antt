-- The kinds of a format's arguments: in Boost's formats one that is taken as any type and as a certain one is of that
-- type (GNU gettext manual, "Boost Format Strings").
pub use Rattle.numbered_arguments.specs.NumberedArguments.{of_kind}
use Rattle.std.specs.Prelude.{Bool, not, if◌then◌else◌, List, map}
use Rattle.std.specs.List.{filter}
use Rattle.numbered_arguments.specs.declared.Kind.TheVariants.{Character, Integer, Float, Pointer, Object}
use Rattle.numbered_arguments.specs.declared.Size.TheVariants.{Plain}
use Rattle.numbered_arguments.specs.declared.Numbered.{Numbered}
use Rattle.numbered_arguments.specs.NumberedKinds.{same_kind}
use Rattle.numbered_arguments.specs.NumberedArguments.{has, is_consistent}
use Rattle.script_formats.specs.declared.Notation.{Notation}
use Rattle.script_formats.specs.declared.Notation.TheVariants.{Boost}

-- of a certain type
abbrev pub is_typed : Numbered → Bool
is_typed a = not (same_kind a.kind Object)

abbrev pub typed_arguments : List Numbered → List Numbered
typed_arguments asked = filter is_typed asked

-- the argument with the type by which it is there
abbrev pub typed_by : (Numbered → Bool) → Numbered → Numbered
typed_by is_there a =
    if is_there (of_kind Character a) then of_kind Character a
    else if is_there (of_kind (Integer Plain) a) then of_kind (Integer Plain) a
    else if is_there (of_kind (Float Plain) a) then of_kind (Float Plain) a
    else if is_there (of_kind Pointer a) then of_kind Pointer a else a

-- the arguments, each with its type, if a directive says one
abbrev pub settled_arguments : List Numbered → List Numbered
settled_arguments asked = map (typed_by (has (typed_arguments asked))) asked

-- each number has one kind; in Boost's formats no two types
abbrev pub is_consistent_in : Notation → List Numbered → Bool
is_consistent_in Boost asked = is_consistent (typed_arguments asked)
is_consistent_in _ asked = is_consistent asked
