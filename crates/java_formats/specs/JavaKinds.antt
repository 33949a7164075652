-- The kinds of a pattern's arguments: one that is taken as an object and as something else is that something else (GNU
-- gettext manual, "Java Format Strings").
pub use Rattle.numbered_arguments.specs.NumberedArguments.{of_kind}
use Rattle.std.specs.Prelude.{Bool, not, if◌then◌else◌, List, map}
use Rattle.std.specs.List.{filter}
use Rattle.numbered_arguments.specs.declared.Kind.TheVariants.{Object, Number, Date}
use Rattle.numbered_arguments.specs.declared.Numbered.{Numbered}
use Rattle.numbered_arguments.specs.NumberedKinds.{same_kind}
use Rattle.numbered_arguments.specs.NumberedArguments.{has}

-- more than an object
abbrev pub is_specific : Numbered → Bool
is_specific a = not (same_kind a.kind Object)

abbrev pub specific_arguments : List Numbered → List Numbered
specific_arguments asked = filter is_specific asked

-- the argument as a number or a date, if it is there as such
abbrev pub settled_by : (Numbered → Bool) → Numbered → Numbered
settled_by is_there a =
    if is_there (of_kind Number a) then of_kind Number a
    else if is_there (of_kind Date a) then of_kind Date a else a

abbrev pub settled_kinds : List Numbered → List Numbered
settled_kinds asked = map (settled_by (has (specific_arguments asked))) asked
