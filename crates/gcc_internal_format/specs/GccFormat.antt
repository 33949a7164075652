-- Formats of GCC, the arguments that they ask for, and when those of two formats agree.
use Rattle.std.specs.Prelude.{◌≡◌, ℕ, Bool, true, false, ◌&&◌, not, ◌==◌, List}
use Rattle.std.specs.List.{list_any}
use Rattle.format_arguments.specs.declared.FormatFault.{FormatFault}
use Rattle.format_arguments.specs.declared.Strictness.{Strictness}
use Rattle.numbered_arguments.specs.declared.Numbered.{Numbered}
use Rattle.numbered_arguments.specs.declared.Request.{Request}
use Rattle.numbered_arguments.specs.NumberedArguments as arguments
use Rattle.numbered_arguments.specs.NumberedArguments.{numbered_requests, is_consistent}
use Rattle.numbered_arguments.specs.NumberedText.{AsksFor, Refuses}
use Rattle.gcc_internal_format.specs.GccDirectives.{percent, DirectiveAt}
use Rattle.gcc_internal_format.specs.GccCollecting.{asks, is_own, is_next}

-- each number has one kind, and no two arguments are asked for with a number and without
abbrev pub fits : List Request → Bool
fits requests = is_consistent (numbered_requests requests)
    && not (list_any is_own requests && list_any is_next requests)

-- the text is a format that asks for these arguments
abbrev pub HasSignature : List ℕ → List Numbered → Type 0
HasSignature text asked = AsksFor percent DirectiveAt asks fits text asked

-- the text has this fault
abbrev pub HasFault : List ℕ → FormatFault → Type 0
HasFault text fault = Refuses percent DirectiveAt asks fits text fault

-- ---- two formats

abbrev pub is_error_number : Numbered → Bool
is_error_number a = a.number == 0

abbrev pub prints_error : List Numbered → Bool
prints_error asked = list_any is_error_number asked

-- both, or neither
abbrev pub are_same : Bool → Bool → Bool
are_same true other = other
are_same false other = not other

-- the arguments agree, and both print the text of the error number, or none does, leniently too
abbrev pub agree : List Numbered → List Numbered → Strictness → Bool
agree original translation rule =
    arguments.agree original translation rule && are_same (prints_error original) (prints_error translation)
