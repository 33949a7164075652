-- The parts of a directive of Python's `%` (GNU gettext manual, "Python Format Strings"; Python's library reference,
-- "printf-style String Formatting").
pub use Rattle.byte_text.specs.Characters.{percent, star, dot}
use Rattle.std.specs.Prelude.{◌≡◌, ℕ, zero, suc, ◌+◌, Bool, not, ◌&&◌, ◌==◌, if◌then◌else◌, List, ◌∷◌, ◌++◌}
use Rattle.std.specs.Prelude.{Option, None, Some, ◌⊎◌, codes, length}
use Rattle.std.specs.List.{fold, list_all, list_any}
use Rattle.std.specs.Char.{is_ascii_digit}
use Rattle.format_arguments.specs.Bytes.{run, behind, behind_one, BeginsNot}
use Rattle.format_arguments.specs.declared.Kind.{Kind}
use Rattle.format_arguments.specs.declared.Kind.TheVariants.{Any, Percent, Character, Text, Integer, Float}
use Rattle.python_format.specs.declared.parts.Amount.{Amount}
use Rattle.python_format.specs.declared.parts.Amount.TheVariants.{Star, Fixed}

-- ---- the special characters of formats

abbrev pub open_parenthesis : ℕ
open_parenthesis = 40

abbrev pub close_parenthesis : ℕ
close_parenthesis = 41

-- ---- names

-- one parenthesis less is open, if one was
abbrev pub less : ℕ → Option ℕ
less zero = None
less (suc n) = Some n

-- how many parentheses are open after this byte; None: one was closed that was not open
abbrev pub open_after : Option ℕ → ℕ → Option ℕ
open_after None b = None
open_after (Some n) b =
    if b == open_parenthesis then Some (n + 1) else if b == close_parenthesis then less n else Some n

-- each parenthesis in the name is closed in it
abbrev pub IsBalanced : List ℕ → Type 0
IsBalanced name = fold open_after (Some 0) name ≡ Some 0

-- text is `(name)`, or has no name, followed by rest
abbrev pub NameAt : Option (List ℕ) → List ℕ → List ℕ → Type 0
NameAt None text rest = BeginsNot open_parenthesis text × (rest ≡ text)
NameAt (Some name) text rest =
    (text ≡ open_parenthesis ∷ (name ++ close_parenthesis ∷ rest)) × IsBalanced name

-- ---- flags, width, precision and length modifier

abbrev pub is_flag : ℕ → Bool
is_flag b = list_any (λ flag. b == flag) (codes "-+ #0")

abbrev pub is_modifier : ℕ → Bool
is_modifier b = list_any (λ letter. b == letter) (codes "hlL")

-- digits, at least one, and all of them 0
abbrev pub is_zero : List ℕ → Bool
is_zero digits = not (length digits == 0) && list_all (λ digit. digit == 48) digits

-- text is a `*`, or any number of digits, followed by rest
abbrev pub AmountAt : Amount → List ℕ → List ℕ → Type 0
AmountAt Star text rest = text ≡ star ∷ rest
AmountAt (Fixed is_all_zeros) text rest =
    BeginsNot star text × (is_all_zeros ≡ is_zero (run is_ascii_digit text)) × (rest ≡ behind is_ascii_digit text)

-- text is a dot and an amount, or has no precision, followed by rest
abbrev pub PrecisionAt : Amount → List ℕ → List ℕ → Type 0
PrecisionAt precision text rest =
    ((after : List ℕ) × (text ≡ dot ∷ after) × AmountAt precision after rest)
    ⊎ (BeginsNot dot text × (precision ≡ Fixed Bool.false) × (rest ≡ text))

-- what follows one length modifier, which may be left out; it has no effect
abbrev pub behind_modifier : List ℕ → List ℕ
behind_modifier text = behind_one is_modifier text

-- ---- conversions

-- a text of which nothing is shown can be of any object
abbrev pub text_kind : Amount → Kind
text_kind (Fixed Bool.true) = Any
text_kind _ = Text

abbrev pub kind_of : ℕ → Amount → Option Kind
kind_of conversion precision =
    if list_any (λ letter. conversion == letter) (codes "diouxX") then Some Integer
    else if list_any (λ letter. conversion == letter) (codes "eEfgG") then Some Float
    else if list_any (λ letter. conversion == letter) (codes "sr") then Some (text_kind precision)
    else if conversion == 99 then Some Character
    else if conversion == percent then Some Percent
    else None
