-- Formats of librep, and the arguments that they ask for.
use Rattle.std.specs.Prelude.{◌≡◌, ℕ, true, List}
use Rattle.format_arguments.specs.declared.FormatFault.{FormatFault}
use Rattle.format_arguments.specs.declared.FormatFault.TheVariants.{Invalid, Memory}
use Rattle.format_arguments.specs.Text.{IsFormat}
use Rattle.numbered_arguments.specs.declared.Numbered.{Numbered}
use Rattle.numbered_arguments.specs.NumberedArguments.{is_consistent}
use Rattle.librep_format.specs.declared.parts.Directive.{Directive}
use Rattle.librep_format.specs.LibrepDirectives.{percent, DirectiveAt}
use Rattle.librep_format.specs.LibrepCounting.{numbered_arguments}

-- the text is a format that asks for these arguments, in this order, and each number has one kind
abbrev pub HasSignature : List ℕ → List Numbered → Type 0
HasSignature text asked = (directives : List Directive) × IsFormat percent DirectiveAt directives text
    × (asked ≡ numbered_arguments directives) × (is_consistent asked ≡ true)

-- the text has this fault; Memory says nothing about the text
abbrev pub HasFault : List ℕ → FormatFault → Type 0
HasFault text Invalid = (asked : List Numbered) → ¬ HasSignature text asked
HasFault text Memory = Unit {0}
