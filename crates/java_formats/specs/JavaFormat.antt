-- Patterns of MessageFormat, and the arguments that they take (GNU gettext manual, "Java Format Strings").
use Rattle.std.specs.Prelude.{◌≡◌, ℕ, true, List, [], ◌∷◌, Option, None, Some}
use Rattle.std.specs.List.{flat_map}
use Rattle.format_arguments.specs.declared.FormatFault.{FormatFault}
use Rattle.format_arguments.specs.declared.FormatFault.TheVariants.{Invalid, Memory}
use Rattle.numbered_arguments.specs.declared.Numbered.{Numbered}
use Rattle.numbered_arguments.specs.NumberedArguments.{is_consistent}
use Rattle.java_formats.specs.declared.Sort.TheVariants.{Pattern}
use Rattle.java_formats.specs.JavaSteps.{Step, Leads}
use Rattle.java_formats.specs.JavaKinds.{specific_arguments, settled_kinds}

abbrev pub list_of : Option Numbered → List Numbered
list_of None = []
list_of (Some a) = a ∷ []

-- what the elements take, in order
abbrev pub asked_in : List Step → List Numbered
asked_in steps = flat_map (λ s. list_of s.asked) steps

-- steps lead through the whole pattern, and nothing that they take is both a number and a date
abbrev pub HasSignature : List ℕ → List Numbered → Type 0
HasSignature text asked =
    (steps : List Step) × Leads ((Pattern, text) ∷ []) steps []
    × (is_consistent (specific_arguments (asked_in steps)) ≡ true) × (asked ≡ settled_kinds (asked_in steps))

-- the text has this fault; Memory says nothing about the text
abbrev pub HasFault : List ℕ → FormatFault → Type 0
HasFault text Invalid = (asked : List Numbered) → ¬ HasSignature text asked
HasFault text Memory = Unit {0}
