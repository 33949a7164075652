-- Conversions of java.util.Formatter, and what may stand before each (GNU gettext manual, "Java Format Strings";
-- java.util.Formatter, "Conversions", "Flags", "Width" and "Precision").
pub use Rattle.format_arguments.specs.Bytes.{is_one_of}
use Rattle.std.specs.Prelude.{ℕ, Bool, true, false, not, ◌&&◌, ◌||◌, ◌==◌, if◌then◌else◌, List, [], ◌∷◌}
use Rattle.std.specs.Prelude.{Option, None, Some, codes}
use Rattle.std.specs.List.{list_all}
use Rattle.numbered_arguments.specs.declared.Kind.{Kind}
use Rattle.numbered_arguments.specs.declared.Kind.TheVariants as kinds
use Rattle.numbered_arguments.specs.declared.Size.TheVariants.{Plain}
use Rattle.java_printf_format.specs.declared.conversions.Conversion.{Conversion}
use Rattle.java_printf_format.specs.declared.conversions.Conversion.TheVariants.{Percent, Line, General, Character}
use Rattle.java_printf_format.specs.declared.conversions.Conversion.TheVariants.{Decimal, Octal, Float, HexFloat, Date}

-- ---- conversions

-- "general", "character", "integral" and "floating point", and those without an argument
abbrev pub conversion_of : ℕ → Option Conversion
conversion_of b =
    if b == 37 then Some Percent
    else if b == 110 then Some Line
    else if is_one_of (codes "bBhHsS") b then Some General
    else if is_one_of (codes "cC") b then Some Character
    else if b == 100 then Some Decimal
    else if is_one_of (codes "oxX") b then Some Octal
    else if is_one_of (codes "eEfgG") b then Some Float
    else if is_one_of (codes "aA") b then Some HexFloat
    else None

-- the suffixes of "date/time"
abbrev pub is_suffix : ℕ → Bool
is_suffix b = is_one_of (codes "HIklMSLNpzZsQBbhAaCYyjmdeRTrDFc") b

abbrev pub with_rest : List ℕ → Option Conversion → Option (Conversion × List ℕ)
with_rest rest None = None
with_rest rest (Some conversion) = Some (conversion, rest)

-- a suffix, behind a `t`
abbrev pub date_at : List ℕ → Option (Conversion × List ℕ)
date_at [] = None
date_at (b ∷ more) = if is_suffix b then Some (Date, more) else None

-- a conversion, and what follows
abbrev pub conversion_at : List ℕ → Option (Conversion × List ℕ)
conversion_at [] = None
conversion_at (b ∷ more) = if is_one_of (codes "tT") b then date_at more else with_rest more (conversion_of b)

-- ---- what a conversion takes

-- a general one takes any object; two kinds don't go together for all that
abbrev pub kind_of : Conversion → Option Kind
kind_of Percent = None
kind_of Line = None
kind_of General = Some kinds.Object
kind_of Character = Some kinds.Character
kind_of Decimal = Some (kinds.Integer Plain)
kind_of Octal = Some (kinds.Integer Plain)
kind_of Float = Some (kinds.Float Plain)
kind_of HexFloat = Some (kinds.Float Plain)
kind_of Date = Some kinds.Date

-- ---- what may stand before a conversion

abbrev pub has_flag : Conversion → ℕ → Bool
has_flag Line b = false
has_flag General b = is_one_of (codes "-#") b
has_flag Decimal b = is_one_of (codes "-+ 0,(") b
has_flag Octal b = is_one_of (codes "-#+ 0(") b
has_flag Float b = is_one_of (codes "-#+ 0,(") b
has_flag HexFloat b = is_one_of (codes "-#+ 0") b
has_flag _ b = b == 45

abbrev pub has_flags : Conversion → List ℕ → Bool
has_flags conversion flags = list_all (has_flag conversion) flags

abbrev pub has_width : Conversion → Bool
has_width Line = false
has_width _ = true

abbrev pub has_precision : Conversion → Bool
has_precision General = true
has_precision Float = true
has_precision HexFloat = true
has_precision _ = false

-- a part may stand there, or doesn't
abbrev pub is_allowed : Bool → Bool → Bool
is_allowed stands may = not stands || may

-- whether these flags, a width and a precision may stand before it
abbrev pub accepts : Conversion → List ℕ → Bool → Bool → Bool
accepts conversion flags width precision =
    has_flags conversion flags && is_allowed width (has_width conversion)
    && is_allowed precision (has_precision conversion)
