-- Formats, and the arguments that they ask for.
use Rattle.std.specs.Prelude.{ℕ, Bool, ◌&&◌, List}
use Rattle.std.specs.List.{list_any}
use Rattle.format_arguments.specs.declared.FormatFault.{FormatFault}
use Rattle.numbered_arguments.specs.declared.Numbered.{Numbered}
use Rattle.numbered_arguments.specs.declared.Request.{Request}
use Rattle.numbered_arguments.specs.NumberedArguments.{numbered_requests}
use Rattle.numbered_arguments.specs.NumberedText.{AsksFor, Refuses}
use Rattle.script_formats.specs.declared.Notation.{Notation}
use Rattle.script_formats.specs.ScriptDirectives.{percent, DirectiveAt}
use Rattle.script_formats.specs.ScriptKinds.{is_consistent_in}
use Rattle.script_formats.specs.Collecting.{asks, is_own, is_next, allows}

-- each number has one kind, and arguments with numbers and without go together only where the language lets them
abbrev pub fits : Notation → List Request → Bool
fits notation requests =
    is_consistent_in notation (numbered_requests requests)
    && allows notation (list_any is_own requests) (list_any is_next requests)

-- the text is a format that asks for these arguments
abbrev pub HasSignature : Notation → List ℕ → List Numbered → Type 0
HasSignature notation text asked = AsksFor percent (DirectiveAt notation) asks (fits notation) text asked

-- the text has this fault
abbrev pub HasFault : Notation → List ℕ → FormatFault → Type 0
HasFault notation text fault = Refuses percent (DirectiveAt notation) asks (fits notation) text fault
