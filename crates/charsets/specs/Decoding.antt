-- Bytes in a charset, and their text: each character is a run of one, two or three bytes.
use Rattle.std.specs.Prelude.{◌≡◌, ℕ, ◌-◌, ◌<◌, ◌==◌, if◌then◌else◌, nat_lt, Bool, false, List, [], ◌∷◌, length, drop}
use Rattle.std.specs.Prelude.{Option, Some, None, slice_index, encode_utf8_all, ⊤}
use Rattle.charsets.specs.declared.kinds.Charset.{Charset}
use Rattle.charsets.specs.declared.kinds.Charset.TheVariants.{EucJp}
use Rattle.charsets.specs.declared.reading.DecodeFault.{DecodeFault}
use Rattle.charsets.specs.declared.reading.DecodeFault.TheVariants.{NoCharacter, Memory}
use Rattle.charsets.specs.Table.{table}
use Rattle.charset_grid.specs.Grid.{cell}
use Rattle.euc_jp_rows.specs.EucJpGrids.{euc_jp_8f}
use Rattle.charsets.specs.Pairs.{pairs}

-- ---- one character

-- the code point of a byte from 128 on that is a character by itself, 0 if it is none
abbrev pub code_of : Charset → ℕ → ℕ
code_of charset byte = slice_index (table charset) (byte - 128)

-- the byte 8F comes before two bytes in EUC-JP
abbrev pub is_before_two : Charset → ℕ → Bool
is_before_two EucJp byte = byte == 0x8F
is_before_two _ byte = false

-- a character of this code point and this many bytes, none if the code point is 0
abbrev pub code_with_size : ℕ → ℕ → Option (ℕ × ℕ)
code_with_size code size = if code == 0 then None else Some (code, size)

-- the character that the byte 8F and the first two of these bytes are
abbrev pub of_three : List ℕ → Option (ℕ × ℕ)
of_three (second ∷ third ∷ bytes) = code_with_size (cell euc_jp_8f second third) 3
of_three _ = None

-- the character that a first byte and the first of these bytes are
abbrev pub of_two : Charset → ℕ → List ℕ → Option (ℕ × ℕ)
of_two charset first (second ∷ bytes) = code_with_size (cell (pairs charset first) first second) 2
of_two charset first [] = None

abbrev pub of_several : Charset → ℕ → List ℕ → Option (ℕ × ℕ)
of_several charset first bytes =
    if is_before_two charset first then of_three bytes else of_two charset first bytes

-- the character at the front of the bytes: its code point, and how many bytes it has; bytes below 128 are ASCII
abbrev pub front : Charset → List ℕ → Option (ℕ × ℕ)
front charset [] = None
front charset (first ∷ bytes) =
    if nat_lt first 128 then Some (first, 1)
    else (if code_of charset first == 0 then of_several charset first bytes else Some (code_of charset first, 1))

-- ---- a text

-- the bytes are these characters, one after another, and then the rest
abbrev pub BeginsWith : Charset → List ℕ → List ℕ → List ℕ → Type 0
BeginsWith charset bytes [] rest = bytes ≡ rest
BeginsWith charset bytes (c ∷ characters) rest =
    (size : ℕ) × (front charset bytes ≡ Some (c, size)) × BeginsWith charset (drop size bytes) characters rest

-- the bytes are characters, and the text is their UTF-8
pub record IsDecoded (charset : Charset) (bytes text : List ℕ) : Type 0 where
  pub characters : List ℕ
  pub whole : BeginsWith charset bytes characters []
  pub spells : text ≡ encode_utf8_all characters

-- there are characters up to the index i, and none begins there
pub record IsFirstWithNone (charset : Charset) (bytes : List ℕ) (i : ℕ) : Type 0 where
  pub within : i < length bytes
  pub characters : List ℕ
  pub before : BeginsWith charset bytes characters (drop i bytes)
  pub none : front charset (drop i bytes) ≡ None

-- what a fault says of the bytes
abbrev pub IsUnmapped : Charset → List ℕ → DecodeFault → Type 0
IsUnmapped charset bytes (NoCharacter i) = IsFirstWithNone charset bytes i
IsUnmapped charset bytes Memory = ⊤
