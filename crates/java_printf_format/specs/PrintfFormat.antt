-- Formats of java.util.Formatter, and the arguments that they ask for.
use Rattle.std.specs.Prelude.{◌≡◌, ℕ, true, List, Some}
use Rattle.format_arguments.specs.declared.FormatFault.{FormatFault}
use Rattle.format_arguments.specs.declared.FormatFault.TheVariants.{Invalid, Memory}
use Rattle.format_arguments.specs.Text.{IsFormat}
use Rattle.numbered_arguments.specs.declared.Numbered.{Numbered}
use Rattle.numbered_arguments.specs.NumberedArguments.{is_consistent}
use Rattle.java_printf_format.specs.declared.directive.Directive.{Directive}
use Rattle.java_printf_format.specs.PrintfDirectives.{percent, DirectiveAt}
use Rattle.java_printf_format.specs.PrintfPlaces.{Taken, taken_by}

-- the text is a format that asks for these arguments, in this order, and each number has one kind
pub record HasSignature (text : List ℕ) (asked : List Numbered) : Type 0 where
  pub directives : List Directive
  pub taken : Taken
  pub reads : IsFormat percent DirectiveAt directives text
  pub takes : taken_by directives ≡ Some taken
  pub asked_is : asked ≡ taken.asked
  pub consistent : is_consistent asked ≡ true

-- the text has this fault; Memory says nothing about the text
abbrev pub HasFault : List ℕ → FormatFault → Type 0
HasFault text Invalid = (asked : List Numbered) → ¬ HasSignature text asked
HasFault text Memory = Unit {0}
