-- The parts of a directive of PHP's formats (GNU gettext manual, "PHP Format Strings"; PHP's function reference,
-- "sprintf").
pub use Rattle.byte_text.specs.Characters.{percent, dollar, apostrophe as quote, dot}
use Rattle.std.specs.Prelude.{◌≡◌, ◌≢◌, ℕ, zero, suc, Bool, ◌==◌, if◌then◌else◌, List, [], ◌∷◌, Option, None, Some}
use Rattle.std.specs.Prelude.{codes, length}
use Rattle.std.specs.List.{list_any}
use Rattle.std.specs.Option.{unwrap_or}
use Rattle.std.specs.Char.{is_ascii_digit}
use Rattle.format_arguments.specs.Bytes.{run, behind, behind_one, BeginsNot}
use Rattle.numbered_arguments.specs.declared.Kind.{Kind}
use Rattle.numbered_arguments.specs.declared.Kind.TheVariants.{Character, Text, Integer, Float}
use Rattle.numbered_arguments.specs.declared.Size.TheVariants.{Plain}
use Rattle.numbered_arguments.specs.NumberedArguments.{number_of}

-- ---- the special characters of formats

-- ---- argument numbers

-- text is digits and a `$`, or doesn't begin so, followed by rest; the number isn't 0
abbrev pub NumberAt : Option ℕ → List ℕ → List ℕ → Type 0
NumberAt None text rest = BeginsNot dollar (behind is_ascii_digit text) × (rest ≡ text)
NumberAt (Some number) text rest = (behind is_ascii_digit text ≡ dollar ∷ rest)
    × (number ≡ number_of (run is_ascii_digit text)) × (number ≢ 0)

-- ---- flags

abbrev pub is_flag : ℕ → Bool
is_flag b = list_any (λ flag. b == flag) (codes "- 0")

abbrev pub behind_any : List ℕ → Option (List ℕ)
behind_any [] = None
behind_any (b ∷ more) = Some more

-- what follows a flag, if the text begins with one: `-`, a space, `0`, or a quote and any byte
abbrev pub behind_flag : List ℕ → Option (List ℕ)
behind_flag [] = None
behind_flag (b ∷ more) = if b == quote then behind_any more else if is_flag b then Some more else None

-- text is n flags, followed by rest
abbrev pub Flags : ℕ → List ℕ → List ℕ → Type 0
Flags zero text rest = text ≡ rest
Flags (suc n) text rest = (after : List ℕ) × (behind_flag text ≡ Some after) × Flags n after rest

-- text is flags, as many as there are, followed by rest
abbrev pub FlagsAt : List ℕ → List ℕ → Type 0
FlagsAt text rest = (n : ℕ) × Flags n text rest × (behind_flag rest ≡ None)

-- ---- precision and size

-- what follows digits, if the text begins with one
abbrev pub behind_digits : List ℕ → Option (List ℕ)
behind_digits text =
    if length (run is_ascii_digit text) == 0 then None else Some (behind is_ascii_digit text)

-- what follows a dot and digits, which may be left out
abbrev pub behind_precision : List ℕ → List ℕ
behind_precision [] = []
behind_precision (b ∷ more) = if b == dot then unwrap_or (behind_digits more) (b ∷ more) else b ∷ more

abbrev pub is_size : ℕ → Bool
is_size b = b == 108

-- what follows an `l`, which may be left out; it has no effect
abbrev pub behind_size : List ℕ → List ℕ
behind_size text = behind_one is_size text

-- ---- conversions

abbrev pub kind_of : ℕ → Option Kind
kind_of conversion =
    if list_any (λ letter. conversion == letter) (codes "bduoxX") then Some (Integer Plain)
    else if list_any (λ letter. conversion == letter) (codes "ef") then Some (Float Plain)
    else if conversion == 115 then Some Text
    else if conversion == 99 then Some Character
    else None
