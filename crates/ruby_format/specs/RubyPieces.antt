-- The parts of a directive of Ruby's formats (GNU gettext manual, "Ruby Format Strings"; Ruby's documentation,
-- Kernel#sprintf).
pub use Rattle.byte_text.specs.Characters.{percent, dollar, star, dot, less, open_brace, close_brace}
use Rattle.std.specs.Prelude.{ℕ, Bool, ◌||◌, ◌==◌, if◌then◌else◌, List, [], ◌∷◌, Option, None, Some, codes, min}
use Rattle.std.specs.List.{list_any}
use Rattle.std.specs.Prelude.{option_map}
use Rattle.std.specs.Char.{is_ascii_digit}
use Rattle.byte_text.specs.Decimal.{decimal_value}
use Rattle.format_arguments.specs.Bytes.{run, behind}
use Rattle.format_arguments.specs.Text.{is_plain}
use Rattle.format_arguments.specs.declared.Kind.{Kind}
use Rattle.format_arguments.specs.declared.Kind.TheVariants.{Percent, Character, Text, Integer, Float}
use Rattle.ruby_format.specs.declared.parts.Amount.{Amount}
use Rattle.ruby_format.specs.declared.parts.Amount.TheVariants as amounts

-- ---- the special characters of formats

abbrev pub newline : ℕ
newline = 10

abbrev pub greater : ℕ
greater = 62

-- ---- the ways to an argument

pub data Way : Type 0 where
  Next : Way
  Number : (number : ℕ) → Way
  Name : (name : List ℕ) → Way

-- GNU gettext doesn't tell larger numbers apart
abbrev pub last_number : ℕ
last_number = 4294967290

abbrev pub number_of : List ℕ → ℕ
number_of digits = min (decimal_value digits) last_number

abbrev pub before_dollar : ℕ → List ℕ → Option (ℕ × List ℕ)
before_dollar number [] = None
before_dollar number (b ∷ rest) = if b == dollar then Some (number, rest) else None

-- the number before a `$`, and what follows
abbrev pub numeral_at : List ℕ → Option (ℕ × List ℕ)
numeral_at text = before_dollar (number_of (run is_ascii_digit text)) (behind is_ascii_digit text)

abbrev pub closed_name : List ℕ → List ℕ → Option (List ℕ × List ℕ)
closed_name name [] = None
closed_name name (b ∷ rest) = Some (name, rest)

-- the bytes up to the one that closes the name, and what follows that
abbrev pub name_at : ℕ → List ℕ → Option (List ℕ × List ℕ)
name_at close text = closed_name (run (is_plain close) text) (behind (is_plain close) text)

-- ---- widths and precisions

-- a `*` takes the next argument, and `*m$` the one of that number, which isn't 0
abbrev pub asked_by : Option (ℕ × List ℕ) → List ℕ → Option (Amount × List ℕ)
asked_by None text = Some (amounts.Next, text)
asked_by (Some (number, rest)) text = if number == 0 then None else Some (amounts.Number number, rest)

-- what stands behind a `*`
abbrev pub star_at : List ℕ → Option (Amount × List ℕ)
star_at text = asked_by (numeral_at text) text

-- what stands behind a dot: a `*`, or any number of digits
abbrev pub precision_at : List ℕ → Option (Amount × List ℕ)
precision_at [] = Some (amounts.Fixed, [])
precision_at (b ∷ more) =
    if b == star then star_at more else Some (amounts.Fixed, behind is_ascii_digit (b ∷ more))

-- ---- parts

pub data Part : Type 0 where
  Flag : Part
  To : (way : Way) → Part
  Width : (amount : Amount) → Part
  Precision : (amount : Amount) → Part

abbrev pub is_flag : ℕ → Bool
is_flag b = list_any (λ flag. b == flag) (codes " #+-0")

-- digits are an argument's number, if a `$` follows, and else a width
abbrev pub digits_as : Option (ℕ × List ℕ) → List ℕ → Part × List ℕ
digits_as None rest = (Width amounts.Fixed, rest)
digits_as (Some (number, rest)) other = (To (Number number), rest)

abbrev pub digits_at : List ℕ → Part × List ℕ
digits_at text = digits_as (numeral_at text) (behind is_ascii_digit text)

-- a part of which this is the first byte: `*`, a dot, or a name between `<` and `>`
abbrev pub marked_at : ℕ → List ℕ → Option (Part × List ℕ)
marked_at b more =
    if b == star then option_map (λ found. (Width found.0, found.1)) (star_at more)
    else if b == dot then option_map (λ found. (Precision found.0, found.1)) (precision_at more)
    else if b == less then option_map (λ found. (To (Name found.0), found.1)) (name_at greater more)
    else None

-- the part that the text begins with, if it begins with one, and what follows; a 0 in front is a flag
abbrev pub part_at : List ℕ → Option (Part × List ℕ)
part_at [] = None
part_at (b ∷ more) =
    if is_flag b then Some (Flag, more)
    else if is_ascii_digit b then Some (digits_at (b ∷ more))
    else marked_at b more

-- ---- ends

pub data Ending : Type 0 where
  Nothing : Ending
  Asks : (kind : Kind) → Ending
  Braces : (name : List ℕ) → Ending

-- an object shown as code, by `%p`, is of a kind of its own, which is called Percent here
abbrev pub kind_of : ℕ → Option Kind
kind_of conversion =
    if list_any (λ letter. conversion == letter) (codes "diubBoxX") then Some Integer
    else if list_any (λ letter. conversion == letter) (codes "fgGeEaA") then Some Float
    else if conversion == 115 then Some Text
    else if conversion == 99 then Some Character
    else if conversion == 112 then Some Percent
    else None

-- the end of a directive that the text begins with, and what follows: a `%` or the end of a line, a name in braces,
-- or a conversion
abbrev pub ending_at : List ℕ → Option (Ending × List ℕ)
ending_at [] = None
ending_at (b ∷ more) =
    if b == percent || b == newline then Some (Nothing, more)
    else if b == open_brace then option_map (λ found. (Braces found.0, found.1)) (name_at close_brace more)
    else option_map (λ kind. (Asks kind, more)) (kind_of b)
