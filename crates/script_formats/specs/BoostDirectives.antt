-- Directives of Boost's `format`, from behind the `%` (GNU gettext manual, "Boost Format Strings"; Boost's
-- documentation of its library Format, "Syntax").
pub use Rattle.format_arguments.specs.Bytes.{is_first_digit}
pub use Rattle.byte_text.specs.Characters.{bar}
use Rattle.std.specs.Prelude.{ℕ, Bool, true, false, not, ◌&&◌, ◌==◌, if◌then◌else◌, List, [], ◌∷◌, Option, None, Some}
use Rattle.std.specs.Prelude.{codes}
use Rattle.std.specs.List.{list_any}
use Rattle.std.specs.Char.{is_ascii_digit}
use Rattle.format_arguments.specs.Bytes.{run, behind}
use Rattle.numbered_arguments.specs.declared.Kind.{Kind}
use Rattle.numbered_arguments.specs.declared.Kind.TheVariants.{Character, Integer, Float, Pointer, Object}
use Rattle.numbered_arguments.specs.declared.Size.TheVariants.{Plain}
use Rattle.numbered_arguments.specs.declared.Request.{Request}
use Rattle.numbered_arguments.specs.NumberedArguments.{number_of}
use Rattle.script_formats.specs.declared.directive.Directive.{Directive}
use Rattle.script_formats.specs.declared.boost.Start.{Start}
use Rattle.script_formats.specs.declared.boost.Start.TheVariants.{Whole, Number}
use Rattle.script_formats.specs.ScriptParts.{argument, printing_directive, behind_percent}
use Rattle.script_formats.specs.AwkDirectives.{amount, precision}

-- what follows a bar
abbrev pub behind_bar : List ℕ → Option (List ℕ)
behind_bar [] = None
behind_bar (b ∷ more) = if b == bar then Some more else None

-- ---- "N" of `%N%` and `%N$`

-- behind a number: a `$`, or a `%` that ends the directive, which there isn't behind a bar
abbrev pub behind_digits : Bool → List ℕ → ℕ → List ℕ → Option (Start × List ℕ)
behind_digits barred text number [] = Some (Number None, text)
behind_digits barred text number (b ∷ more) =
    if b == 36 then (if number == 0 then None else Some (Number (Some number), more))
    else if b == 37 && not barred then (if number == 0 then None else Some (Whole number, more))
    else Some (Number None, text)

-- a number, whose first digit isn't 0, with its `$` or `%`, or nothing; None: the number is 0
abbrev pub start : Bool → List ℕ → Option (Start × List ℕ)
start barred [] = Some (Number None, [])
start barred (b ∷ more) = if is_first_digit b
    then behind_digits barred (b ∷ more) (number_of (run is_ascii_digit (b ∷ more)))
    (behind is_ascii_digit (b ∷ more))
    else Some (Number None, b ∷ more)

-- ---- "flags" and what is read as a size

abbrev pub is_flag : ℕ → Bool
is_flag b = list_any (λ flag. b == flag) (codes " +-#0'_=hl")

abbrev pub is_size : ℕ → Bool
is_size b = list_any (λ letter. b == letter) (codes "hlL")

-- ---- "type-char"

-- what a conversion asks for; None: there is no such conversion
abbrev pub asked_by : ℕ → Option (Option Kind)
asked_by conversion =
    if list_any (λ letter. conversion == letter) (codes "cC") then Some (Some Character)
    else if list_any (λ letter. conversion == letter) (codes "sS") then Some (Some Object)
    else if list_any (λ letter. conversion == letter) (codes "diouxX") then Some (Some (Integer Plain))
    else if list_any (λ letter. conversion == letter) (codes "eEfgG") then Some (Some (Float Plain))
    else if conversion == 112 then Some (Some Pointer)
    else if list_any (λ letter. conversion == letter) (codes "nt") then Some None
    else None

abbrev pub with_rest : List ℕ → Option (Option Kind) → Option (Option Kind × List ℕ)
with_rest rest None = None
with_rest rest (Some kind) = Some (kind, rest)

-- any byte, behind a `T`
abbrev pub behind_fill : List ℕ → Option (Option Kind × List ℕ)
behind_fill [] = None
behind_fill (b ∷ more) = Some (None, more)

-- a conversion, and what follows
abbrev pub conversion_behind : List ℕ → Option (Option Kind × List ℕ)
conversion_behind [] = None
conversion_behind (b ∷ more) = if b == 84 then behind_fill more else with_rest more (asked_by b)

abbrev pub closed_by : Option Kind → Option (List ℕ) → Option (Option Kind × List ℕ)
closed_by kind None = None
closed_by kind (Some rest) = Some (kind, rest)

abbrev pub with_bar : Option (Option Kind × List ℕ) → Option (Option Kind × List ℕ)
with_bar None = None
with_bar (Some found) = closed_by found.0 (behind_bar found.1)

abbrev pub bar_or : List ℕ → Option (List ℕ) → Option (Option Kind × List ℕ)
bar_or text None = with_bar (conversion_behind text)
bar_or text (Some rest) = Some (Some Object, rest)

-- a conversion; behind a bar one with a bar after it, or the bar alone
abbrev pub conversion : Bool → List ℕ → Option (Option Kind × List ℕ)
conversion true text = bar_or text (behind_bar text)
conversion false text = conversion_behind text

-- ---- directives

abbrev pub made_of : Option ℕ → Option Request → Option Request → Option (Option Kind × List ℕ)
    → Option (Directive × List ℕ)
made_of number width precision None = None
made_of number width precision (Some found) = Some (
  printing_directive width precision (argument number found.0),
  found.1,
)

abbrev pub behind_precision : Bool → Option ℕ → Option Request → Option (Option Request × List ℕ)
    → Option (Directive × List ℕ)
behind_precision barred number width None = None
behind_precision barred number width (Some found) =
    made_of number width found.0 (conversion barred (behind is_size found.1))

abbrev pub behind_width : Bool → Option ℕ → Option (Option Request × List ℕ) → Option (Directive × List ℕ)
behind_width barred number None = None
behind_width barred number (Some found) = behind_precision barred number found.0 (precision found.1)

-- behind the number
abbrev pub back : Bool → Option ℕ → List ℕ → Option (Directive × List ℕ)
back barred number text = behind_width barred number (amount (behind is_flag text))

abbrev pub behind_start : Bool → Start → List ℕ → Option (Directive × List ℕ)
behind_start barred (Whole number) rest =
    Some (printing_directive None None (argument (Some number) (Some Object)), rest)
behind_start barred (Number number) rest = back barred number rest

abbrev pub with_start : Bool → Option (Start × List ℕ) → Option (Directive × List ℕ)
with_start barred None = None
with_start barred (Some found) = behind_start barred found.0 found.1

abbrev pub directive_behind : List ℕ → Option (List ℕ) → Option (Directive × List ℕ)
directive_behind text None = with_start false (start false text)
directive_behind text (Some rest) = with_start true (start true rest)

abbrev pub unless_percent : List ℕ → Option (List ℕ) → Option (Directive × List ℕ)
unless_percent text None = directive_behind text (behind_bar text)
unless_percent text (Some rest) = Some (printing_directive None None None, rest)

-- what the directive asks for, and what follows
abbrev pub directive : List ℕ → Option (Directive × List ℕ)
directive text = unless_percent text (behind_percent text)
