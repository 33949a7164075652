-- Formats, and the arguments that they ask for.
use Rattle.std.specs.Prelude.{ℕ, List}
use Rattle.format_arguments.specs.declared.FormatFault.{FormatFault}
use Rattle.format_arguments.specs.Arguments.{Argument}
use Rattle.format_arguments.specs.Text.{Asks, Fails}
use Rattle.python_brace_format.specs.BraceSpecifiers.{open_brace}
use Rattle.python_brace_format.specs.BraceDirectives.{DirectiveAt, asks}

-- the text is a format that asks for these arguments
abbrev pub HasSignature : List ℕ → List Argument → Type 0
HasSignature text asked = Asks open_brace DirectiveAt asks text asked

-- the text has this fault
abbrev pub HasFault : List ℕ → FormatFault → Type 0
HasFault text fault = Fails open_brace DirectiveAt asks text fault
