-- Formats, and the arguments that they ask for.
use Rattle.std.specs.Prelude.{ℕ, Bool, List}
use Rattle.format_arguments.specs.declared.FormatFault.{FormatFault}
use Rattle.numbered_arguments.specs.declared.Numbered.{Numbered}
use Rattle.numbered_arguments.specs.declared.Request.{Request}
use Rattle.numbered_arguments.specs.NumberedArguments.{numbered_requests, list_of}
use Rattle.numbered_arguments.specs.NumberedText.{AsksFor, Refuses}
use Rattle.numbered_formats.specs.declared.Notation.{Notation}
use Rattle.numbered_formats.specs.NumberDirectives.{percent, DirectiveAt}
use Rattle.numbered_formats.specs.NumberGaps.{fit}

abbrev pub fits : Notation → List Request → Bool
fits notation requests = fit notation (numbered_requests requests)

-- the text is a format that asks for these arguments
abbrev pub HasSignature : Notation → List ℕ → List Numbered → Type 0
HasSignature notation text asked = AsksFor percent (DirectiveAt notation) list_of (fits notation) text asked

-- the text has this fault
abbrev pub HasFault : Notation → List ℕ → FormatFault → Type 0
HasFault notation text fault = Refuses percent (DirectiveAt notation) list_of (fits notation) text fault
