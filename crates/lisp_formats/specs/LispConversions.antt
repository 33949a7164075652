-- Conversions: which there are, which parameters each expects, and what each asks for (GNU gettext manual, "Scheme
-- Format Strings" and "Lisp Format Strings"; GNU Guile, "Formatted Output"; Common Lisp HyperSpec, section 22.3).
pub use Rattle.format_arguments.specs.Bytes.{is_one_of}
use Rattle.std.specs.Prelude.{ℕ, Bool, true, false, ◌==◌, if◌then◌else◌, List, [], ◌∷◌, Option, None, Some, codes}
use Rattle.lisp_formats.specs.declared.Notation.{Notation}
use Rattle.lisp_formats.specs.declared.Notation.TheVariants.{Scheme, Lisp}
use Rattle.lisp_formats.specs.declared.Kind.{Kind}
use Rattle.lisp_formats.specs.declared.Kind.TheVariants as kinds
use Rattle.lisp_formats.specs.declared.Kind.TheVariants.{OptionalCharacter, OptionalInteger}
use Rattle.lisp_formats.specs.declared.parameters.Parameter.{Parameter}
use Rattle.lisp_formats.specs.declared.parameters.Parameter.TheVariants.{Absent}
use Rattle.lisp_formats.specs.declared.conversions.Target.{Target}
use Rattle.lisp_formats.specs.declared.conversions.Target.TheVariants as targets
use Rattle.lisp_formats.specs.declared.conversions.Target.TheVariants.{Nothing, Next, Previous}
use Rattle.lisp_formats.specs.declared.conversions.Conversion.{Conversion}
use Rattle.lisp_formats.specs.declared.conversions.Conversion.TheVariants.{Object, Plain, Integer, Radix, Fixed}
use Rattle.lisp_formats.specs.declared.conversions.Conversion.TheVariants.{Exponential, Dollars, Complex, Character}
use Rattle.lisp_formats.specs.declared.conversions.Conversion.TheVariants.{Coded, Plural, Repeated, Bare, Column}
use Rattle.lisp_formats.specs.declared.conversions.Conversion.TheVariants.{Filled, Unread}

-- ---- letters

-- what both languages have; jumps, groups, choices, loops and ends are not read, nor what takes a format as an argument
abbrev pub shared_conversion : ℕ → Option Conversion
shared_conversion b =
    if is_one_of (codes "aAsS") b then Some Object
    else if is_one_of (codes "bBdDoOxX") b then Some Integer
    else if is_one_of (codes "rR") b then Some Radix
    else if is_one_of (codes "fF") b then Some Fixed
    else if is_one_of (codes "eEgG") b then Some Exponential
    else if is_one_of (codes "$") b then Some Dollars
    else if is_one_of (codes "pP") b then Some Plural
    else if is_one_of (codes "%&|~") b then Some Repeated
    else if b == 10 then Some Bare
    else if is_one_of (codes "*?([{^") b then Some Unread
    else None

-- what Scheme alone has, or has otherwise
abbrev pub of_scheme : ℕ → Option Conversion
of_scheme b =
    if is_one_of (codes "cC") b then Some Coded
    else if is_one_of (codes "iI") b then Some Complex
    else if is_one_of (codes "yY") b then Some Plain
    else if is_one_of (codes "tT") b then Some Filled
    else if is_one_of (codes "_/") b then Some Repeated
    else if is_one_of (codes "!qQ") b then Some Bare
    else if is_one_of (codes "kK") b then Some Unread
    else None

-- what Lisp alone has, or has otherwise; functions and justified text are not read
abbrev pub of_lisp : ℕ → Option Conversion
of_lisp b =
    if is_one_of (codes "cC") b then Some Character
    else if is_one_of (codes "wW") b then Some Plain
    else if is_one_of (codes "tT") b then Some Column
    else if is_one_of (codes "iI") b then Some Repeated
    else if is_one_of (codes "_") b then Some Bare
    else if is_one_of (codes "/!<") b then Some Unread
    else None

abbrev pub own_conversion : Notation → ℕ → Option Conversion
own_conversion Scheme b = of_scheme b
own_conversion Lisp b = of_lisp b

abbrev pub or_own : Option Conversion → Notation → ℕ → Option Conversion
or_own None notation b = own_conversion notation b
or_own (Some conversion) notation b = Some conversion

-- the conversion of a letter; None: there is no such conversion
abbrev pub conversion_of : Notation → ℕ → Option Conversion
conversion_of notation b = or_own (shared_conversion b) notation b

-- ---- parameters

-- the kinds of the parameters of a conversion
abbrev pub expected_kinds : Conversion → List Kind
expected_kinds Object = OptionalInteger ∷ OptionalInteger ∷ OptionalInteger ∷ OptionalCharacter ∷ []
expected_kinds Dollars = OptionalInteger ∷ OptionalInteger ∷ OptionalInteger ∷ OptionalCharacter ∷ []
expected_kinds Integer = OptionalInteger ∷ OptionalCharacter ∷ OptionalCharacter ∷ OptionalInteger ∷ []
expected_kinds Radix = OptionalInteger ∷ OptionalInteger ∷ OptionalCharacter ∷ OptionalCharacter ∷ OptionalInteger ∷ []
expected_kinds Fixed = OptionalInteger ∷ OptionalInteger ∷ OptionalInteger ∷ OptionalCharacter ∷ OptionalCharacter ∷ []
expected_kinds Complex = OptionalInteger ∷ OptionalInteger ∷ OptionalInteger ∷ OptionalCharacter ∷ OptionalCharacter
    ∷ []
expected_kinds Exponential =
    OptionalInteger ∷ OptionalInteger ∷ OptionalInteger ∷ OptionalInteger ∷ OptionalCharacter ∷ OptionalCharacter
    ∷ OptionalCharacter ∷ []
expected_kinds Coded = OptionalInteger ∷ []
expected_kinds Repeated = OptionalInteger ∷ []
expected_kinds Column = OptionalInteger ∷ OptionalInteger ∷ []
expected_kinds Filled = OptionalInteger ∷ OptionalInteger ∷ OptionalCharacter ∷ []
expected_kinds _ = []

-- ---- arguments

-- the directive has no parameter
abbrev pub has_none : List Parameter → Bool
has_none (Absent ∷ []) = true
has_none _ = false

-- what a conversion asks for besides its parameters; Scheme's `~c` with a parameter writes the character of this code
abbrev pub target_of : Conversion → Bool → List Parameter → Target
target_of Object colon parameters = Next kinds.Any
target_of Plain colon parameters = Next kinds.Any
target_of Integer colon parameters = Next kinds.Integer
target_of Radix colon parameters = Next kinds.Integer
target_of Fixed colon parameters = Next kinds.Real
target_of Exponential colon parameters = Next kinds.Real
target_of Dollars colon parameters = Next kinds.Real
target_of Complex colon parameters = Next kinds.Complex
target_of Character colon parameters = Next kinds.Character
target_of Coded colon parameters = if has_none parameters then Next kinds.Character else Nothing
target_of Plural colon parameters = if colon then Previous else Next kinds.Any
target_of Unread colon parameters = targets.Unread
target_of _ colon parameters = Nothing
