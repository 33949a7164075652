-- Directives of java.util.Formatter, from behind the `%` (GNU gettext manual, "Java Format Strings";
-- java.util.Formatter, "Format String Syntax").
pub use Rattle.byte_text.specs.Characters.{percent, dollar, less, dot}
use Rattle.std.specs.Prelude.{◌≡◌, ℕ, Bool, true, false, not, ◌==◌, if◌then◌else◌, List, [], ◌∷◌, length}
use Rattle.std.specs.Prelude.{Option, None, Some, codes}
use Rattle.std.specs.Char.{is_ascii_digit}
use Rattle.format_arguments.specs.Bytes.{run, behind}
use Rattle.numbered_arguments.specs.NumberedArguments.{number_of}
use Rattle.java_printf_format.specs.declared.conversions.Conversion.{Conversion}
use Rattle.java_printf_format.specs.declared.directive.Which.{Which}
use Rattle.java_printf_format.specs.declared.directive.Which.TheVariants.{Own, Previous, Next}
use Rattle.java_printf_format.specs.declared.directive.Directive.{Directive}
use Rattle.java_printf_format.specs.PrintfConversions.{is_one_of, conversion_at, kind_of, accepts}

-- ---- "argument_index"

-- a `<`, which stands for the argument of the directive before, or nothing
abbrev pub which_relative : List ℕ → Which × List ℕ
which_relative [] = (Next, [])
which_relative (b ∷ more) = if b == less then (Previous, more) else (Next, b ∷ more)

-- a number of its own isn't 0
abbrev pub which_explicit : ℕ → List ℕ → Option (Which × List ℕ)
which_explicit number rest = if number == 0 then None else Some (Own number, rest)

-- where these digits stand before a `$`, they are a number
abbrev pub which_by : List ℕ → ℕ → List ℕ → Option (Which × List ℕ)
which_by text number [] = Some (which_relative text)
which_by text number (b ∷ more) = if b == dollar then which_explicit number more else Some (which_relative text)

-- which argument is taken, and what follows; None: its number is 0
abbrev pub which : List ℕ → Option (Which × List ℕ)
which text = which_by text (number_of (run is_ascii_digit text)) (behind is_ascii_digit text)

-- ---- "flags", "width" and ".precision"

abbrev pub is_flag : ℕ → Bool
is_flag b = is_one_of (codes "-#+ 0,(") b

abbrev pub has_digits : List ℕ → Bool
has_digits text = not (length (run is_ascii_digit text) == 0)

-- whether there is a precision, and what follows; None: a dot without digits
abbrev pub precision : List ℕ → Option (Bool × List ℕ)
precision [] = Some (false, [])
precision (b ∷ more) =
    if b == dot then (if has_digits more then Some (true, behind is_ascii_digit more) else None)
    else Some (false, b ∷ more)

-- ---- directives

abbrev pub directive_from : Which → List ℕ → Bool → Bool → Option (Conversion × List ℕ) → Option (Directive × List ℕ)
directive_from which flags width precision None = None
directive_from which flags width precision (Some found) =
    if accepts found.0 flags width precision then Some (record { which = which; kind = kind_of found.0 }, found.1)
    else None

abbrev pub behind_precision : Which → List ℕ → Bool → Option (Bool × List ℕ) → Option (Directive × List ℕ)
behind_precision which flags width None = None
behind_precision which flags width (Some found) = directive_from which flags width found.0 (conversion_at found.1)

abbrev pub behind_width : Which → List ℕ → List ℕ → Option (Directive × List ℕ)
behind_width which flags text = behind_precision which flags (has_digits text) (precision (behind is_ascii_digit text))

-- flags, a width, a precision and a conversion
abbrev pub back : Which → List ℕ → Option (Directive × List ℕ)
back which text = behind_width which (run is_flag text) (behind is_flag text)

abbrev pub back_of : Option (Which × List ℕ) → Option (Directive × List ℕ)
back_of None = None
back_of (Some found) = back found.0 found.1

-- which argument is taken, and as what kind, and what follows the directive
abbrev pub directive : List ℕ → Option (Directive × List ℕ)
directive text = back_of (which text)

-- text is a `%` and this directive, followed by rest
abbrev pub DirectiveAt : Directive → List ℕ → List ℕ → Type 0
DirectiveAt d text rest = (inner : List ℕ) × (text ≡ percent ∷ inner) × (directive inner ≡ Some (d, rest))
