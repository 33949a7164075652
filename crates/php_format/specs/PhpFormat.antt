-- Formats, and the arguments that they ask for.
use Rattle.std.specs.Prelude.{ℕ, Bool, List}
use Rattle.format_arguments.specs.declared.FormatFault.{FormatFault}
use Rattle.numbered_arguments.specs.declared.Numbered.{Numbered}
use Rattle.numbered_arguments.specs.declared.Request.{Request}
use Rattle.numbered_arguments.specs.NumberedArguments.{numbered_requests, list_of, is_consistent}
use Rattle.numbered_arguments.specs.NumberedText.{AsksFor, Refuses}
use Rattle.php_format.specs.PhpPieces.{percent}
use Rattle.php_format.specs.PhpDirectives.{DirectiveAt}

-- each number has one kind
abbrev pub fits : List Request → Bool
fits requests = is_consistent (numbered_requests requests)

-- the text is a format that asks for these arguments
abbrev pub HasSignature : List ℕ → List Numbered → Type 0
HasSignature text asked = AsksFor percent DirectiveAt list_of fits text asked

-- the text has this fault
abbrev pub HasFault : List ℕ → FormatFault → Type 0
HasFault text fault = Refuses percent DirectiveAt list_of fits text fault
