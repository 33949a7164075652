-- Bytes of markup, and what follows them (W3C, "Extensible Markup Language (XML) 1.0", section 2.3).
pub use Rattle.format_arguments.specs.Bytes.{behind_word}
use Rattle.std.specs.Prelude.{ℕ, Bool, false, ◌||◌, ◌==◌, nat_le, List, [], ◌∷◌, Option, None, Some}
use Rattle.std.specs.Char.{is_ascii_digit, is_ascii_hexdigit, is_ascii_alphanumeric}
use Rattle.format_arguments.specs.Bytes.{behind}
use Rattle.kuit_formats.specs.declared.bytes.Class.{Class}
use Rattle.kuit_formats.specs.declared.bytes.Class.TheVariants.{Blank, Name, Digit, HexDigit}

-- white space: a space, a tab, or an end of a line
abbrev pub is_blank : ℕ → Bool
is_blank b = b == 32 || b == 9 || b == 10 || b == 13

-- a byte that can be a part of a name: of ASCII's, letters, digits and `-`, `.`, `:`, `_`
abbrev pub is_name_byte : ℕ → Bool
is_name_byte b = is_ascii_alphanumeric b || b == 45 || b == 46 || b == 58 || b == 95 || nat_le 128 b

abbrev pub is_in : Class → ℕ → Bool
is_in Blank b = is_blank b
is_in Name b = is_name_byte b
is_in Digit b = is_ascii_digit b
is_in HexDigit b = is_ascii_hexdigit b

abbrev pub behind_blanks : List ℕ → List ℕ
behind_blanks text = behind (is_in Blank) text

abbrev pub begins_blank : List ℕ → Bool
begins_blank [] = false
begins_blank (b ∷ more) = is_blank b

abbrev pub or_else : Option (List ℕ) → Option (List ℕ) → Option (List ℕ)
or_else None other = other
or_else (Some found) other = Some found

-- what follows the first place where the text has this word
abbrev pub behind_mark : List ℕ → List ℕ → Option (List ℕ)
behind_mark mark [] = None
behind_mark mark (b ∷ more) = or_else (behind_word mark (b ∷ more)) (behind_mark mark more)
