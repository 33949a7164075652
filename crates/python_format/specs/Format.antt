-- Formats, and the arguments that they ask for.
use Rattle.std.specs.Prelude.{ℕ, List}
use Rattle.format_arguments.specs.declared.FormatFault.{FormatFault}
use Rattle.format_arguments.specs.Arguments.{Argument}
use Rattle.format_arguments.specs.Text.{Asks, Fails}
use Rattle.python_format.specs.PythonPieces.{percent}
use Rattle.python_format.specs.PythonDirectives.{DirectiveAt, asks}

-- the text is a format that asks for these arguments
abbrev pub HasSignature : List ℕ → List Argument → Type 0
HasSignature text asked = Asks percent DirectiveAt asks text asked

-- the text has this fault
abbrev pub HasFault : List ℕ → FormatFault → Type 0
HasFault text fault = Fails percent DirectiveAt asks text fault
