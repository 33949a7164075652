-- Formats of GNU Fortran, the arguments that they ask for, and when those of two formats agree.
use Rattle.std.specs.Prelude.{◌≡◌, ℕ, Bool, true, false, ◌&&◌, not, ◌==◌, List, Option}
use Rattle.std.specs.List.{flat_map, list_any}
use Rattle.format_arguments.specs.declared.FormatFault.{FormatFault}
use Rattle.format_arguments.specs.declared.FormatFault.TheVariants.{Invalid, Memory}
use Rattle.format_arguments.specs.declared.Strictness.{Strictness}
use Rattle.format_arguments.specs.Text.{IsFormat}
use Rattle.numbered_arguments.specs.declared.Numbered.{Numbered}
use Rattle.numbered_arguments.specs.declared.Request.{Request}
use Rattle.numbered_arguments.specs.NumberedArguments as arguments
use Rattle.numbered_arguments.specs.NumberedArguments.{list_of}
use Rattle.gfc_internal_format.specs.GfcDirectives.{percent, DirectiveAt}
use Rattle.gfc_internal_format.specs.GfcNumbers.{with_numbers}
use Rattle.gfc_internal_format.specs.GfcArguments as calls
use Rattle.gfc_internal_format.specs.GfcArguments.{is_list}

-- what directives ask for, with numbers
abbrev pub asked_by : List (Option Request) → List Numbered
asked_by directives = with_numbers (flat_map list_of directives)

-- the text is a format that asks for these arguments, in this order
abbrev pub HasSignature : List ℕ → List Numbered → Type 0
HasSignature text asked = (directives : List (Option Request)) × IsFormat percent DirectiveAt directives text
    × (asked ≡ calls.arguments (asked_by directives)) × (is_list (asked_by directives) ≡ true)

-- the text has this fault; Memory says nothing about the text
abbrev pub HasFault : List ℕ → FormatFault → Type 0
HasFault text Invalid = (asked : List Numbered) → ¬ HasSignature text asked
HasFault text Memory = Unit {0}

-- ---- two formats

abbrev pub is_current_locus : Numbered → Bool
is_current_locus a = a.number == 0

abbrev pub prints_current_locus : List Numbered → Bool
prints_current_locus asked = list_any is_current_locus asked

abbrev pub both_or_neither : Bool → Bool → Bool
both_or_neither true other = other
both_or_neither false other = not other

-- the arguments agree, and both print the current locus, or none does, leniently too
abbrev pub agree : List Numbered → List Numbered → Strictness → Bool
agree original translation rule = arguments.agree original translation rule
    && both_or_neither (prints_current_locus original) (prints_current_locus translation)
