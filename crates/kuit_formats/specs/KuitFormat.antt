-- Formats with markup, and the arguments that they ask for (GNU gettext manual, "KDE Format Strings").
use Rattle.std.specs.Prelude.{ℕ, List}
use Rattle.format_arguments.specs.declared.FormatFault.{FormatFault}
use Rattle.format_arguments.specs.declared.FormatFault.TheVariants.{Invalid, Memory}
use Rattle.numbered_arguments.specs.declared.Numbered.{Numbered}
use Rattle.numbered_formats.specs.declared.Notation.TheVariants.{Kde}
use Rattle.numbered_formats.specs.NumberFormat as numbers
use Rattle.kuit_formats.specs.KuitMarkup.{IsMarkup}

-- the text is well-formed markup, and a format of KDE that asks for these arguments
abbrev pub HasSignature : List ℕ → List Numbered → Type 0
HasSignature text asked = IsMarkup text × numbers.HasSignature Kde text asked

-- the text has this fault; Memory says nothing about the text
abbrev pub HasFault : List ℕ → FormatFault → Type 0
HasFault text Invalid = (asked : List Numbered) → ¬ HasSignature text asked
HasFault text Memory = Unit {0}
