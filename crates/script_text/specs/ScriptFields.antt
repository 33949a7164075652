-- What the fields of a line mean.
use Rattle.std.specs.Prelude.{ℕ, ◌^◌, ◌&&◌, ◌==◌, Bool, true, false, if◌then◌else◌, nat_lt, nat_le, List, [], ◌∷◌}
use Rattle.std.specs.Prelude.{length, codes, Option, Some, None, option_and_then}
use Rattle.std.specs.Char.{is_ascii_digit}
use Rattle.std.specs.Str.{bytes_eq}
use Rattle.std.specs.Str.Parse.{digits_value}
use Rattle.std.specs.List.{list_all}
use Rattle.std.specs.Result.{result_ok}
use Rattle.hex.specs.Hex.{decode_of}
use Rattle.catalogue.specs.declared.Options.{Options}

-- one field after another, if each of them can be read
infixl 10 ◌>>=◌
abbrev pub ◌>>=◌ : {A B : Type 0} → Option A → (A → Option B) → Option B
o >>= f = option_and_then f o

-- one digit or more, of a number below 2 ^ 64
abbrev pub is_number : List ℕ → Bool
is_number digits = list_all is_ascii_digit digits
    && (nat_lt 0 (length digits) && nat_lt (digits_value 10 digits) (2 ^ 64))

-- a decimal number
abbrev pub number : List ℕ → Option ℕ
number digits = if is_number digits then Some (digits_value 10 digits) else None

-- the letter after a backslash: `n` for LF, `t` for a tab, or a backslash again
abbrev pub escaped_byte : ℕ → Option ℕ
escaped_byte letter =
    if letter == 110 then Some 10 else
    if letter == 116 then Some 9 else
    if letter == 92 then Some 92 else None

-- a text with its escapes, each a backslash and such a letter
abbrev pub unescaped_text : List ℕ → Option (List ℕ)
unescaped_text [] = Some []
unescaped_text (b ∷ []) = if b == 92 then None else Some (b ∷ [])
unescaped_text (b ∷ c ∷ text) = if b == 92 then (do
  byte ← escaped_byte c
  rest ← unescaped_text text
  Some (byte ∷ rest)) else (do
    rest ← unescaped_text (c ∷ text)
    Some (b ∷ rest))

-- how a text is compiled: `-`, or `c` for checked and `f` for fuzzy entries too
abbrev pub options_of : List ℕ → Option Options
options_of text =
    if bytes_eq text (codes "-") then Some (record { checked = false; use_fuzzy = false }) else
    if bytes_eq text (codes "c") then Some (record { checked = true; use_fuzzy = false }) else
    if bytes_eq text (codes "f") then Some (record { checked = false; use_fuzzy = true }) else
    if bytes_eq text (codes "cf") then Some (record { checked = true; use_fuzzy = true }) else None

-- the bytes that hexadecimal digits spell: two digits a byte, in either case
abbrev pub hex_bytes : List ℕ → Option (List ℕ)
hex_bytes digits = result_ok (decode_of digits)

-- several bytes, and the first is a 0
abbrev pub has_leading_zero : List ℕ → Bool
has_leading_zero (b ∷ c ∷ text) = b == 48
has_leading_zero _ = false

-- one of `workers` workers, by its number, which is counted from 0
abbrev pub worker_of : ℕ → List ℕ → Option ℕ
worker_of workers text = if has_leading_zero text then None else (do
  n ← number text
  if nat_lt n workers then Some n else None)

-- the most workers that a script may have
abbrev pub most_workers : ℕ
most_workers = 16

-- how many workers there are: 1 to 16
abbrev pub worker_count : List ℕ → Option ℕ
worker_count text = do
  n ← number text
  if nat_le 1 n && nat_le n most_workers then Some n else None
