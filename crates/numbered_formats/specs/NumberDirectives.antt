-- Directives that name an argument by its number (GNU gettext manual, "Qt Format Strings", "KDE Format Strings", "YCP
-- Format Strings", "Smalltalk Format Strings"; Qt's reference, "QString::arg" and "Writing Source Code for
-- Translation"; KDE's "Programmer's Guide for ki18n"; GNU Smalltalk's reference, CharArray, `bindWith:`).
pub use Rattle.format_arguments.specs.Bytes.{is_first_digit}
pub use Rattle.byte_text.specs.Characters.{percent}
use Rattle.std.specs.Prelude.{◌≡◌, ℕ, ◌+◌, ◌-◌, ◌*◌, ◌==◌, if◌then◌else◌, List, [], ◌∷◌, Option, None, Some}
use Rattle.std.specs.Char.{is_ascii_digit}
use Rattle.format_arguments.specs.Bytes.{run, behind}
use Rattle.numbered_arguments.specs.declared.Kind.{Kind}
use Rattle.numbered_arguments.specs.declared.Kind.TheVariants.{Any, Text, Integer}
use Rattle.numbered_arguments.specs.declared.Size.TheVariants.{Plain}
use Rattle.numbered_arguments.specs.declared.Request.{Request}
use Rattle.numbered_arguments.specs.NumberedArguments.{number_of}
use Rattle.numbered_formats.specs.declared.Notation.{Notation}
use Rattle.numbered_formats.specs.declared.Notation.TheVariants.{Qt, QtPlural, Kde, Ycp, Smalltalk}

abbrev pub numbered_request : ℕ → Kind → Request
numbered_request number kind = record { number = Some number; kind = kind }

-- what a digit stands for
abbrev pub digit_value : ℕ → ℕ
digit_value b = b - 48

-- ---- what stands behind the `%`: the argument, and what follows

-- a number of the first digit and of another, if one follows
abbrev pub second_digit : Kind → ℕ → List ℕ → Request × List ℕ
second_digit kind first [] = (numbered_request first kind, [])
second_digit kind first (b ∷ more) =
    if is_ascii_digit b then (numbered_request (10 * first + digit_value b) Any, more)
    else (numbered_request first kind, b ∷ more)

abbrev pub digits_at : Kind → List ℕ → Option (Request × List ℕ)
digits_at kind [] = None
digits_at kind (b ∷ more) = if is_ascii_digit b then Some (second_digit kind (digit_value b) more) else None

-- one digit or two, maybe behind an `L`; only one digit without it can be one of the strings that `arg` takes at once
abbrev pub qt : List ℕ → Option (Request × List ℕ)
qt [] = None
qt (b ∷ more) = if b == 76 then digits_at Any more else digits_at Text (b ∷ more)

abbrev pub n : List ℕ → Option (Request × List ℕ)
n [] = None
n (b ∷ more) = if b == 110 then Some (numbered_request 1 (Integer Plain), more) else None

-- `n`, maybe behind an `L`
abbrev pub qt_plural : List ℕ → Option (Request × List ℕ)
qt_plural [] = None
qt_plural (b ∷ more) = if b == 76 then n more else n (b ∷ more)

-- digits, of which the first isn't 0
abbrev pub kde : List ℕ → Option (Request × List ℕ)
kde [] = None
kde (b ∷ more) = if is_first_digit b
    then Some (numbered_request (number_of (run is_ascii_digit (b ∷ more))) Any, behind is_ascii_digit (b ∷ more))
    else None

-- one digit, which isn't 0
abbrev pub digit : List ℕ → Option (Request × List ℕ)
digit [] = None
digit (b ∷ more) = if is_first_digit b then Some (numbered_request (digit_value b) Any, more) else None

abbrev pub request : Notation → List ℕ → Option (Request × List ℕ)
request Qt text = qt text
request QtPlural text = qt_plural text
request Kde text = kde text
request Ycp text = digit text
request Smalltalk text = digit text

-- ---- a `%` that asks for nothing

abbrev pub behind_percent : List ℕ → Option (List ℕ)
behind_percent [] = None
behind_percent (b ∷ more) = if b == percent then Some more else None

-- what follows the `%`: in YCP and Smalltalk another one, in other languages anything
abbrev pub behind_plain : Notation → List ℕ → Option (List ℕ)
behind_plain Ycp text = behind_percent text
behind_plain Smalltalk text = behind_percent text
behind_plain _ text = Some text

-- ---- directives

-- text is a directive that asks for an argument, or a `%` that asks for nothing, followed by rest
abbrev pub DirectiveAt : Notation → Option Request → List ℕ → List ℕ → Type 0
DirectiveAt notation (Some r) text rest =
    (inner : List ℕ) × (text ≡ percent ∷ inner) × (request notation inner ≡ Some (r, rest))
DirectiveAt notation None text rest =
    (inner : List ℕ) × (text ≡ percent ∷ inner) × (request notation inner ≡ None)
    × (behind_plain notation inner ≡ Some rest)
