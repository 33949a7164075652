-- References to characters by their numbers (W3C, "Extensible Markup Language (XML) 1.0", section 4.1).
use Rattle.std.specs.Prelude.{ℕ, ◌+◌, ◌-◌, ◌*◌, min, Bool, false, not, ◌&&◌, ◌==◌, nat_le, if◌then◌else◌, List, [], ◌∷◌}
use Rattle.std.specs.Char.{is_ascii_digit}
use Rattle.std.specs.List.{fold}
use Rattle.format_arguments.specs.Bytes.{run, behind}
use Rattle.kuit_formats.specs.declared.bytes.Class.TheVariants.{Digit, HexDigit}
use Rattle.kuit_formats.specs.KuitBytes.{is_in}
use Rattle.kuit_formats.specs.KuitCharacters.{is_character}

abbrev pub digit_value : ℕ → ℕ
digit_value b = if is_ascii_digit b then b - 48
    else if nat_le 97 b && nat_le b 102 then (b - 97) + 10
    else if nat_le 65 b && nat_le b 70 then (b - 65) + 10 else 0

-- the number that the digits spell; what comes after all characters stands for all numbers above it
abbrev pub number_of : ℕ → List ℕ → ℕ
number_of base digits = fold (λ n d. min (n * base + digit_value d) 0x11_0000) 0 digits

-- a `;` follows the digits, and their number is no character's
abbrev pub is_no_reference : ℕ → List ℕ → List ℕ → Bool
is_no_reference base digits [] = false
is_no_reference base digits (b ∷ more) = if b == 59 then not (is_character (number_of base digits)) else false

-- behind `&#`: an `x` and hexadecimal digits, or at least one decimal digit
abbrev pub number_is_none : List ℕ → Bool
number_is_none [] = false
number_is_none (b ∷ more) =
    if b == 120 then is_no_reference 16 (run (is_in HexDigit) more) (behind (is_in HexDigit) more)
    else if is_ascii_digit b
    then is_no_reference 10 (run (is_in Digit) (b ∷ more)) (behind (is_in Digit) (b ∷ more)) else false

-- behind a `&`: a reference to a number that is no character's; every other `&` is a character of the text, as GNU
-- msgfmt has it
abbrev pub refers_to_none : List ℕ → Bool
refers_to_none [] = false
refers_to_none (b ∷ more) = if b == 35 then number_is_none more else false
