-- Private: clean bytes, of which most strings consist.
use Rattle.std.specs.Prelude.{ℕ, ◌≢◌, ◌<◌, Bool, not, ◌||◌, ◌==◌, List, [], ◌∷◌, get_or, length, Option, None}
use Rattle.std.specs.Prelude.{Some}
use Rattle.std.specs.Str.{IsUtf8}
use denote.Ref.{Bor}
use Rattle.po_text.specs.Spelling.{quote, backslash, line_feed}

-- a byte that stands for itself in a string, and is neither NUL nor byte 4
abbrev pub is_clean : ℕ → Bool
is_clean b = not ((b == quote || b == backslash) || (b == line_feed || (b == 0 || b == 4)))

-- an ASCII byte is at the front, if there is one
abbrev pub StopsAscii : List ℕ → Type 0
StopsAscii [] = Unit {0}
StopsAscii (b ∷ more) = b < 128

-- neither NUL nor byte 4
abbrev pub IsTextByte : ℕ → Type 0
IsTextByte b = (b ≢ 0) × (b ≢ 4)

abbrev pub IsClean : List ℕ → Type 0
IsClean bytes = (k : ℕ) → k < length bytes → IsTextByte (get_or bytes k 0)

-- new is old with the values of the units between text and rest: clean bytes stay clean, and UTF-8 stays UTF-8
pub record KeepsClean (text rest old new : List ℕ) : Type 0 where
  pub clean : IsClean old → IsClean new
  pub tail : IsUtf8 text → IsUtf8 rest
  pub utf8 : IsUtf8 text → IsUtf8 old → IsUtf8 new

-- the bytes of a string that is borrowed from the text, or else decoded
abbrev pub bytes_of : Option (Bor (List ℕ)) → List ℕ → List ℕ
bytes_of None decoded = decoded
bytes_of (Some plain) decoded = plain.now
