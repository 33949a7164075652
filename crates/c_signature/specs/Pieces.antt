-- The parts of a directive (C standard, 7.21.6.1, 4), with the argument numbers of POSIX.
pub use Rattle.byte_text.specs.Characters.{percent, dollar, star, dot}
use Rattle.std.specs.Prelude.{◌≡◌, ℕ, ◌≤◌, Bool, true, ◌&&◌, ◌==◌, nat_le}
use Rattle.std.specs.Prelude.{List, [], ◌∷◌, ◌++◌, length, Option, None, Some, ◌⊎◌, codes}
use Rattle.std.specs.List.{list_all, list_any}
use Rattle.std.specs.Char.{is_ascii_digit}
use Rattle.byte_text.specs.Decimal.{decimal_value}
use Rattle.c_signature.specs.declared.Size.{Size}
use Rattle.c_signature.specs.declared.Size.TheVariants.{Byte, Short, Plain, Long, LongLong, Max, SizeT, PtrDiff}

-- ---- the special characters of formats

-- ---- a part of a text, as long as possible

-- The front of text has this form with this value, no longer front has this form with any value, and rest follows the
-- front.
pub record Longest {V : Type 0} (Form : V → List ℕ → Type 0) (value : V) (text rest : List ℕ) : Type 0 where
  pub front : List ℕ
  pub text_is : text ≡ front ++ rest
  pub form : Form value front
  pub longest : (other : V) (longer more : List ℕ) → text ≡ longer ++ more → Form other longer
      → length longer ≤ length front

-- ---- numbers

-- 1 to 9
abbrev pub is_first_digit : ℕ → Bool
is_first_digit b = nat_le 49 b && nat_le b 57

-- digits, the first of which isn't 0
abbrev pub IsNumeral : List ℕ → Type 0
IsNumeral [] = ⊥
IsNumeral (b ∷ more) = (is_first_digit b ≡ true) × (list_all is_ascii_digit more ≡ true)

-- POSIX, fprintf: `m$`, with at most 9 digits, or nothing
abbrev pub NumberForm : Option ℕ → List ℕ → Type 0
NumberForm None front = front ≡ []
NumberForm (Some m) front =
    (digits : List ℕ) × (front ≡ digits ++ dollar ∷ []) × IsNumeral digits × (length digits ≤ 9)
    × (m ≡ decimal_value digits)

-- ---- the parts

-- 7.21.6.1, 6; `'` is POSIX's, `I` is glibc's
abbrev pub is_flag : ℕ → Bool
is_flag b = list_any (λ flag. b == flag) (codes " +-#0'I")

-- any number of flags, in any order
abbrev pub FlagsForm : List ℕ → List ℕ → Type 0
FlagsForm flags front = (front ≡ flags) × (list_all is_flag flags ≡ true)

-- how a width or a precision is given: left out or in digits; or by an argument, the next one or a numbered one
pub data Amount : Type 0 where
  Fixed : Amount
  Asked : (number : Option ℕ) → Amount

-- 7.21.6.1, 4: nothing, a number without a leading 0, `*` or `*m$`
abbrev pub WidthForm : Amount → List ℕ → Type 0
WidthForm Fixed front = (front ≡ []) ⊎ IsNumeral front
WidthForm (Asked number) front = (after : List ℕ) × (front ≡ star ∷ after) × NumberForm number after

-- 7.21.6.1, 4: nothing, a dot and any number of digits, `.*` or `.*m$`
abbrev pub PrecisionForm : Amount → List ℕ → Type 0
PrecisionForm Fixed front =
    (front ≡ []) ⊎ ((digits : List ℕ) × (front ≡ dot ∷ digits) × (list_all is_ascii_digit digits ≡ true))
PrecisionForm (Asked number) front = (after : List ℕ) × (front ≡ dot ∷ star ∷ after) × NumberForm number after

-- a length modifier: one for integers, or none; or `L`
pub data Modifier : Type 0 where
  Of : (size : Size) → Modifier
  LongDouble : Modifier

-- 7.21.6.1, 7; `q` is BSD's name of `ll`
abbrev pub ModifierForm : Modifier → List ℕ → Type 0
ModifierForm (Of Plain) front = front ≡ []
ModifierForm (Of Byte) front = front ≡ codes "hh"
ModifierForm (Of Short) front = front ≡ codes "h"
ModifierForm (Of Long) front = front ≡ codes "l"
ModifierForm (Of LongLong) front = (front ≡ codes "ll") ⊎ (front ≡ codes "q")
ModifierForm (Of Max) front = front ≡ codes "j"
ModifierForm (Of SizeT) front = front ≡ codes "z"
ModifierForm (Of PtrDiff) front = front ≡ codes "t"
ModifierForm LongDouble front = front ≡ codes "L"
