-- Directives of Perl's `sprintf`, from behind the `%` (GNU gettext manual, "Perl Format Strings"; perlfunc, "sprintf").
pub use Rattle.format_arguments.specs.Bytes.{is_first_digit}
pub use Rattle.byte_text.specs.Characters.{dot}
use Rattle.std.specs.Prelude.{ℕ, true, false, ◌==◌, if◌then◌else◌, List, [], ◌∷◌, Option, None, Some, codes}
use Rattle.std.specs.List.{list_any}
use Rattle.std.specs.Char.{is_ascii_digit}
use Rattle.format_arguments.specs.Bytes.{behind}
use Rattle.numbered_arguments.specs.declared.Kind.{Kind}
use Rattle.numbered_arguments.specs.declared.Kind.TheVariants.{Character, Text, Integer, Unsigned, Float, Vector}
use Rattle.numbered_arguments.specs.declared.Kind.TheVariants.{Pointer, Count}
use Rattle.numbered_arguments.specs.declared.Size.{Size}
use Rattle.numbered_arguments.specs.declared.Size.TheVariants.{Plain, Short, Long, LongLong, Native}
use Rattle.numbered_arguments.specs.declared.Request.{Request}
use Rattle.script_formats.specs.declared.directive.Directive.{Directive}
use Rattle.script_formats.specs.declared.perl.Front.{Front}
use Rattle.script_formats.specs.ScriptParts.{argument, number_at, is_flag}

abbrev pub star_mark : ℕ
star_mark = 42

abbrev pub zero_digit : ℕ
zero_digit = 48

abbrev pub letter_v : ℕ
letter_v = 118

-- ---- "format parameter index"

-- digits, of which the first isn't 0, and a `$`
abbrev pub number_with_dollar : List ℕ → Option (ℕ × List ℕ)
number_with_dollar [] = None
number_with_dollar (b ∷ more) = if is_first_digit b then number_at (b ∷ more) else None

-- a number that is 0, since GNU gettext counts modulo 2^32, is none
abbrev pub own_number : ℕ → Option ℕ
own_number number = if number == 0 then None else Some number

abbrev pub index_from : List ℕ → Option (ℕ × List ℕ) → Option ℕ × List ℕ
index_from text None = (None, text)
index_from text (Some found) = (own_number found.0, found.1)

-- a number, which may be left out, and what follows it
abbrev pub index_at : List ℕ → Option ℕ × List ℕ
index_at text = index_from text (number_with_dollar text)

-- ---- "vector flag": what stands between the numbers, if it is asked for, and what follows

-- a `v`, behind `*` and this number
abbrev pub separator : Option ℕ → List ℕ → Option (Option Request × List ℕ)
separator number [] = None
separator number (b ∷ more) = if b == letter_v then Some (argument number (Some Vector), more) else None

abbrev pub joined_by : List ℕ → Option (ℕ × List ℕ) → Option (Option Request × List ℕ)
joined_by text None = separator None text
joined_by text (Some found) = separator (Some found.0) found.1

-- behind a `*`
abbrev pub behind_star : List ℕ → Option (Option Request × List ℕ)
behind_star text = joined_by text (number_with_dollar text)

-- `v`, `*v` or `*m$v`
abbrev pub vector : List ℕ → Option (Option Request × List ℕ)
vector [] = None
vector (b ∷ more) = if b == letter_v then Some (None, more) else if b == star_mark then behind_star more else None

-- ---- "minimum width" and "precision"

-- `*` or `*m$`
abbrev pub star : List ℕ → Option (Option Request × List ℕ)
star [] = None
star (b ∷ more) =
    if b == star_mark then Some (argument (index_at more).0 (Some (Integer Plain)), (index_at more).1) else None

abbrev pub amount_of : List ℕ → Option (Option Request × List ℕ) → Option Request × List ℕ
amount_of text None = (None, behind is_ascii_digit text)
amount_of text (Some found) = found

-- a star or digits, or nothing
abbrev pub amount : List ℕ → Option Request × List ℕ
amount text = amount_of text (star text)

-- it doesn't begin with 0, which is a flag
abbrev pub width : List ℕ → Option Request × List ℕ
width [] = amount []
width (b ∷ more) = if b == zero_digit then (None, b ∷ more) else amount (b ∷ more)

abbrev pub precision : List ℕ → Option Request × List ℕ
precision [] = (None, [])
precision (b ∷ more) = if b == dot then amount more else (None, b ∷ more)

-- ---- "size"

-- behind an `l`
abbrev pub behind_long : List ℕ → Size × List ℕ
behind_long [] = (Long, [])
behind_long (b ∷ more) = if b == 108 then (LongLong, more) else (Long, b ∷ more)

-- `h`, `l`, `ll`, `L`, `q` or `V`, or nothing
abbrev pub size : List ℕ → Size × List ℕ
size [] = (Plain, [])
size (b ∷ more) =
    if b == 104 then (Short, more) else if b == 108 then behind_long more
    else if list_any (λ letter. b == letter) (codes "Lq") then (LongLong, more)
    else if b == 86 then (Native, more) else (Plain, b ∷ more)

-- ---- conversions

-- a number with a fraction is neither short nor long
abbrev pub float : Size → Option (Option Kind)
float Short = None
float Long = None
float size = Some (Some (Float size))

-- what a conversion asks for; None: there is no such conversion
abbrev pub asked_by : ℕ → Size → Option (Option Kind)
asked_by conversion size =
    if conversion == 37 then Some None
    else if conversion == 99 then Some (Some Character)
    else if conversion == 115 then Some (Some Text)
    else if conversion == 95 then Some (Some Vector)
    else if conversion == 112 then Some (Some Pointer)
    else if list_any (λ letter. conversion == letter) (codes "di") then Some (Some (Integer size))
    else if conversion == 68 then Some (Some (Integer Native))
    else if list_any (λ letter. conversion == letter) (codes "uboxX") then Some (Some (Unsigned size))
    else if list_any (λ letter. conversion == letter) (codes "UO") then Some (Some (Unsigned Native))
    else if list_any (λ letter. conversion == letter) (codes "eEfFgG") then float size
    else if conversion == 110 then Some (Some (Count size))
    else None

-- ---- directives

abbrev pub front_of : Option ℕ → List ℕ → Option (Option Request × List ℕ) → Front × List ℕ
front_of number text None = (record { number = number; is_vector = false; separator = None }, text)
front_of number text (Some found) = (record { number = number; is_vector = true; separator = found.0 }, found.1)

-- a number, flags and a vector flag
abbrev pub front : List ℕ → Front × List ℕ
front text = front_of (index_at text).0 (behind is_flag (index_at text).1) (vector (behind is_flag (index_at text).1))

-- with a vector flag the argument is a vector, and comes before the width
abbrev pub directive_of : Front → Option Request → Option Request → Option Kind → Directive
directive_of front width precision kind = record {
  index = None;
  separator = front.separator;
  vector = argument front.number (if front.is_vector then Some Vector else None);
  width = width;
  precision = precision;
  argument = argument front.number (if front.is_vector then None else kind);
}

abbrev pub made_if : Front → Option Request → Option Request → List ℕ → Option (Option Kind)
    → Option (Directive × List ℕ)
made_if front width precision rest None = None
made_if front width precision rest (Some kind) = Some (directive_of front width precision kind, rest)

abbrev pub behind_size : Front → Option Request → Option Request → Size → List ℕ → Option (Directive × List ℕ)
behind_size front width precision size [] = None
behind_size front width precision size (b ∷ more) = made_if front width precision more (asked_by b size)

-- a width, a precision, a size and a conversion
abbrev pub back : Front → List ℕ → Option (Directive × List ℕ)
back front text = behind_size front (width text).0 (precision (width text).1).0 (size (precision (width text).1).1).0
    (size (precision (width text).1).1).1

-- what the directive asks for, and what follows
abbrev pub directive : List ℕ → Option (Directive × List ℕ)
directive text = back (front text).0 (front text).1
