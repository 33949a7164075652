-- An input as it comes: what has come and isn't taken yet, and where its lines end.
use Rattle.std.specs.Prelude.{◌≡◌, ◌⊎◌, ◌-◌, ◌<◌, ◌≤◌, ℕ, Bool, true, false, List, [], ◌∷◌, ◌++◌, length, take, drop}
use Rattle.std.specs.Prelude.{slice_index}
use Rattle.std.specs.List.{concat}
use Rattle.devices.specs.Lines.{is_line_end, lines}

-- what has come and isn't taken, and whether the input has ended
pub record Incoming : Type 0 where
  pub left : List ℕ
  pub ended : Bool

-- this may still come: nothing, where the input has ended
abbrev pub MayCome : Incoming → List ℕ → Type 0
MayCome input text = input.ended ≡ true → text ≡ []

-- there is no LF from one offset of a text up to another
abbrev pub LacksEnd : List ℕ → ℕ → ℕ → Type 0
LacksEnd text from to = (k : ℕ) → from ≤ k → k < to → is_line_end (slice_index text k) ≡ false

-- there is an LF at an offset of a text, or after it
pub record HasLineEnd (text : List ℕ) (from : ℕ) : Type 0 where
  pub offset : ℕ
  pub low : from ≤ offset
  pub high : offset < length text
  pub ends : is_line_end (slice_index text offset) ≡ true

-- the end of the line that begins at an offset has come
abbrev pub HasEnd : Incoming → ℕ → Type 0
HasEnd input from = (input.ended ≡ true) ⊎ HasLineEnd input.left from

-- the line that begins at `from` ends at `end`, whatever comes
pub record EndsLine (input : Incoming) (from end : ℕ) : Type 0 where
  pub some : from < end
  pub within : end ≤ length input.left
  pub cut : (text : List ℕ) → MayCome input text
      → lines (drop from input.left ++ text)
      ≡ take (end - from) (drop from input.left) ∷ lines (drop end input.left ++ text)

-- a text begins with `count` lines, and the rest follows
pub record CutsLines (count : ℕ) (text front rest : List ℕ) : Type 0 where
  pub enough : count ≤ length (lines text)
  pub front_is : front ≡ concat (take count (lines text))
  pub rest_is : lines rest ≡ drop count (lines text)

-- `count` lines that begin at `from` end at `end`, whatever comes
pub record EndsLines (count : ℕ) (input : Incoming) (from end : ℕ) : Type 0 where
  pub low : from ≤ end
  pub within : end ≤ length input.left
  pub cut : (text : List ℕ) → MayCome input text
      → CutsLines count (drop from input.left ++ text) (take (end - from) (drop from input.left))
      (drop end input.left ++ text)

-- the input has ended, and fewer lines begin at `from`
pub record LacksLines (count : ℕ) (input : Incoming) (from : ℕ) : Type 0 where
  pub ended : input.ended ≡ true
  pub fewer : length (lines (drop from input.left)) < count

-- the ends of `count` lines that begin at `from` have come
abbrev pub HasEnds : ℕ → Incoming → ℕ → Type 0
HasEnds count input from = (input.ended ≡ true) ⊎ ((end : ℕ) × EndsLines count input from end)

-- fewer lines that begin at `from` end within the first `most` bytes, and there are more bytes
pub record EndsFewer (count : ℕ) (input : Incoming) (from most : ℕ) : Type 0 where
  pub ended : ℕ
  pub fewer : ended < count
  pub end : ℕ
  pub ends : EndsLines ended input from end
  pub lacks : LacksEnd input.left end most
  pub over : most < length input.left
