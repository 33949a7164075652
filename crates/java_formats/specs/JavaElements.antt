-- What stands between the braces of a format element (java.text.MessageFormat, "Patterns and Their Interpretation";
-- java.text.DecimalFormat, "Patterns").
pub use Rattle.format_arguments.specs.Bytes.{behind_word}
use Rattle.std.specs.Prelude.{ℕ, zero, suc, Bool, true, false, not, ◌&&◌, ◌||◌, ◌==◌, if◌then◌else◌, List}
use Rattle.std.specs.Prelude.{[], ◌∷◌, codes, Option, None, Some, bytes_eq}
use Rattle.std.specs.Char.{is_ascii_digit, is_ascii_hexdigit}
use Rattle.format_arguments.specs.Bytes.{run, behind}
use Rattle.numbered_arguments.specs.declared.Kind.{Kind}
use Rattle.numbered_arguments.specs.declared.Kind.TheVariants as kinds
use Rattle.numbered_arguments.specs.declared.Numbered.{Numbered}
use Rattle.numbered_arguments.specs.NumberedArguments.{number_of}
use Rattle.java_formats.specs.declared.elements.FormatType.{FormatType}
use Rattle.java_formats.specs.declared.elements.FormatType.TheVariants.{Date, Number, Choice}
use Rattle.java_formats.specs.JavaQuotes.{quote, backslash}

-- ---- styles of numbers

-- `u` and four hexadecimal digits
abbrev pub is_unicode : List ℕ → Bool
is_unicode (u ∷ a ∷ b ∷ c ∷ d ∷ more) =
    u == 117 && is_ascii_hexdigit a && is_ascii_hexdigit b && is_ascii_hexdigit c && is_ascii_hexdigit d
is_unicode _ = false

-- how many bytes a byte takes with it: a backslash one, or `u` and four digits
abbrev pub escape_len : ℕ → List ℕ → ℕ
escape_len b more = if b == backslash then (if is_unicode more then 5 else 1) else 0

-- whether the last subpattern has a digit, behind this byte
abbrev pub has_digit : Bool → Bool → ℕ → Bool
has_digit quoted found b =
    if quoted then found else if b == 48 || b == 35 then true else if b == 59 then false else found

-- whether the last subpattern has a `0` or `#` that isn't quoted; the first bytes, which were escaped, don't count
abbrev pub is_decimal : ℕ → Bool → Bool → List ℕ → Bool
is_decimal escaped quoted found [] = found
is_decimal zero quoted found (b ∷ more) =
    if b == quote then is_decimal 0 (not quoted) found more
    else is_decimal (escape_len b more) quoted (has_digit quoted found b) more
is_decimal (suc escaped) quoted found (b ∷ more) = is_decimal escaped quoted found more

-- a named style, or a pattern of DecimalFormat
abbrev pub is_number_style : List ℕ → Bool
is_number_style style =
    bytes_eq style (codes "currency") || bytes_eq style (codes "percent") || bytes_eq style (codes "integer")
    || is_decimal 0 false false style

-- ---- "FormatType" and "FormatStyle"

abbrev pub with_type : FormatType → Option (List ℕ) → Option (FormatType × List ℕ) → Option (FormatType × List ℕ)
with_type type None others = others
with_type type (Some rest) others = Some (type, rest)

-- a comma and a type, and what follows
abbrev pub type_at : List ℕ → Option (FormatType × List ℕ)
type_at text =
    with_type Date (behind_word (codes ",time") text) (with_type Date (behind_word (codes ",date") text)
    (with_type Number (behind_word (codes ",number") text)
    (with_type Choice (behind_word (codes ",choice") text) None)))

abbrev pub kind_of : FormatType → Kind
kind_of Date = kinds.Date
kind_of _ = kinds.Number

-- the kind, and the choices, of an element with a style
abbrev pub with_style : FormatType → List ℕ → Option (Kind × Option (List ℕ))
with_style Date style = Some (kinds.Date, None)
with_style Number style = if is_number_style style then Some (kinds.Number, None) else None
with_style Choice style = Some (kinds.Number, Some style)

-- behind a type: nothing, or a comma and a style
abbrev pub behind_type : FormatType → List ℕ → Option (Kind × Option (List ℕ))
behind_type type [] = Some (kind_of type, None)
behind_type type (b ∷ style) = if b == 44 then with_style type style else None

abbrev pub styled_at : Option (FormatType × List ℕ) → Option (Kind × Option (List ℕ))
styled_at None = None
styled_at (Some found) = behind_type found.0 found.1

-- behind the number: nothing, or a type, maybe with a style
abbrev pub format_at : List ℕ → Option (Kind × Option (List ℕ))
format_at [] = Some (kinds.Object, None)
format_at (b ∷ more) = styled_at (type_at (b ∷ more))

-- ---- elements

abbrev pub with_number : ℕ → Option (Kind × Option (List ℕ)) → Option (Numbered × Option (List ℕ))
with_number number None = None
with_number number (Some found) = Some (record { number = number; kind = found.0 }, found.1)

abbrev pub element_by : List ℕ → List ℕ → Option (Numbered × Option (List ℕ))
element_by [] rest = None
element_by (digit ∷ digits) rest = with_number (number_of (digit ∷ digits)) (format_at rest)

-- the argument that an element takes, and its choices, if it has any
abbrev pub element : List ℕ → Option (Numbered × Option (List ℕ))
element inner = element_by (run is_ascii_digit inner) (behind is_ascii_digit inner)
