-- System-dependent strings: the segments of a file, and the text that a descriptor stands for on this machine.
--
-- A descriptor is the offset of a text, followed by rows of two words: the length of the next piece of the text, and
-- the number of the segment after it, or 0xffffffff after the last piece, which ends in a NUL.
use Rattle.std.specs.Prelude.{◌≡◌, ◌≢◌, ℕ, zero, suc, ◌+◌, ◌-◌, ◌*◌, ◌<◌, ◌≤◌, List, [], ◌∷◌, ◌++◌, length, map}
use Rattle.std.specs.Prelude.{take, drop, slice_get, slice_index, Option, Some, None, option_map}
use Rattle.mo_image.specs.Tables.{word_at, string_at}
use Rattle.mo_image.specs.Pairs.{key_part as before_nul}
use Rattle.mo_segments.specs.Machine.{value, value_text}
use Rattle.mo_segments.specs.declared.machine.Value.{Value}

-- ---- segments

-- the name of the segment whose row is at this place: the string up to its first NUL
abbrev pub segment_name : (ℕ → List ℕ → ℕ) → List ℕ → ℕ → List ℕ
segment_name number bytes row = before_nul (string_at number bytes row)

-- what the first n segments of the table at this place stand for; None where the name is unknown
abbrev pub segment_values : (ℕ → List ℕ → ℕ) → List ℕ → ℕ → ℕ → List (Option (List ℕ))
segment_values number bytes table zero = []
segment_values number bytes table (suc n) = segment_values number bytes table n
    ++ value (segment_name number bytes (table + 8 * n)) ∷ []

-- the string of this row lies in the file, and its last byte is a NUL
pub record IsSegment (number : ℕ → List ℕ → ℕ) (bytes : List ℕ) (row : ℕ) : Type 0 where
  pub some : 0 < word_at number bytes row
  pub lies : word_at number bytes (row + 4) + word_at number bytes row ≤ length bytes
  pub closed : slice_index bytes (word_at number bytes (row + 4) + word_at number bytes row - 1) ≡ 0

-- the values that were read
abbrev pub texts_of : List (Option Value) → List (Option (List ℕ))
texts_of values = map (λ v. option_map value_text v) values

-- ---- descriptors

-- a descriptor: how the file's words are read, the file's bytes, what its segments stand for, and where it begins
pub record Descriptor : Type 0 where
  pub number : ℕ → List ℕ → ℕ
  pub bytes : List ℕ
  pub values : List (Option (List ℕ))
  pub at : ℕ

-- the number that follows the last piece
abbrev pub no_segment : ℕ
no_segment = 0xffffffff

-- the length of piece k, and the number after it
abbrev pub piece_len : Descriptor → ℕ → ℕ
piece_len d k = word_at d.number d.bytes (d.at + 4 + 8 * k)

abbrev pub segment_after : Descriptor → ℕ → ℕ
segment_after d k = word_at d.number d.bytes (d.at + 4 + 8 * k + 4)

-- where piece k begins: the pieces follow one another
abbrev pub piece_start : Descriptor → ℕ → ℕ
piece_start d zero = word_at d.number d.bytes d.at
piece_start d (suc k) = piece_start d k + piece_len d k

abbrev pub piece : Descriptor → ℕ → List ℕ
piece d k = take (piece_len d k) (drop (piece_start d k) d.bytes)

-- the text of a segment's value; none where the name is unknown
abbrev pub known_text : Option (Option (List ℕ)) → List ℕ
known_text (Some (Some text)) = text
known_text _ = []

-- the first k pieces, each with what the segment after it stands for
abbrev pub text_to : Descriptor → ℕ → List ℕ
text_to d zero = []
text_to d (suc k) = text_to d k ++ piece d k ++ known_text (slice_get d.values (segment_after d k))

-- row k lies in the file
abbrev pub RowLies : Descriptor → ℕ → Type 0
RowLies d k = d.at + 12 + 8 * k ≤ length d.bytes

-- piece k, and those before it, lie in the file
abbrev pub PieceLies : Descriptor → ℕ → Type 0
PieceLies d k = piece_start d k + piece_len d k ≤ length d.bytes

-- the first k rows, their pieces and their segments are there, and none of them is the last
pub record GoesOn (d : Descriptor) (k : ℕ) : Type 0 where
  pub rows : (j : ℕ) → j < k → RowLies d j
  pub pieces : (j : ℕ) → j < k → PieceLies d j
  pub segments : (j : ℕ) → j < k → segment_after d j < length d.values
  pub more : (j : ℕ) → j < k → segment_after d j ≢ no_segment

-- the descriptor has k splits: row k is there, and is the last
pub record Ends (d : Descriptor) (k : ℕ) : Type 0 where
  pub before : GoesOn d k
  pub row : RowLies d k
  pub piece : PieceLies d k
  pub last : segment_after d k ≡ no_segment

-- the machine knows the first k segments of the descriptor
abbrev pub Knows : Descriptor → ℕ → Type 0
Knows d k = (j : ℕ) → j < k → slice_get d.values (segment_after d j) ≢ Some None

-- the text that the descriptor stands for, without the NUL at its end
pub record StandsFor (d : Descriptor) (text : List ℕ) : Type 0 where
  pub splits : ℕ
  pub ends : Ends d splits
  pub spelt : text ++ 0 ∷ [] ≡ text_to d splits ++ piece d splits

-- the machine knows each segment of the descriptor
pub record IsKnown (d : Descriptor) : Type 0 where
  pub splits : ℕ
  pub ends : Ends d splits
  pub known : Knows d splits

-- the machine doesn't know one of them
pub record IsUnknown (d : Descriptor) : Type 0 where
  pub splits : ℕ
  pub ends : Ends d splits
  pub unknown : ¬ Knows d splits

-- ---- sizes and faults

-- what a descriptor of k splits takes: the bytes of its text with the NUL, and those of its rows
abbrev pub cost : Descriptor → ℕ → ℕ
cost d k = length (text_to d k) + piece_len d k + 8 * (k + 1)

-- the last byte of piece k is a NUL
pub record IsClosedAt (d : Descriptor) (k : ℕ) : Type 0 where
  pub some : 0 < piece_len d k
  pub nul : slice_index d.bytes (piece_start d k + piece_len d k - 1) ≡ 0

-- the k-th row isn't there
pub record LeavesFile (d : Descriptor) : Type 0 where
  pub splits : ℕ
  pub before : GoesOn d splits
  pub leaves : ¬ RowLies d splits

-- the k-th piece isn't there
pub record LeavesText (d : Descriptor) : Type 0 where
  pub splits : ℕ
  pub before : GoesOn d splits
  pub row : RowLies d splits
  pub leaves : ¬ PieceLies d splits

-- the k-th piece is there, and with it the descriptor takes more than there is room for
pub record TakesMore (d : Descriptor) (room : ℕ) : Type 0 where
  pub splits : ℕ
  pub before : GoesOn d splits
  pub row : RowLies d splits
  pub piece : PieceLies d splits
  pub more : room < cost d splits

-- the segment after the k-th piece isn't there
pub record LacksSegment (d : Descriptor) : Type 0 where
  pub splits : ℕ
  pub before : GoesOn d splits
  pub row : RowLies d splits
  pub piece : PieceLies d splits
  pub more : segment_after d splits ≢ no_segment
  pub lacks : length d.values ≤ segment_after d splits

-- the last piece doesn't end in a NUL
pub record IsOpen (d : Descriptor) : Type 0 where
  pub splits : ℕ
  pub ends : Ends d splits
  pub unclosed : ¬ IsClosedAt d splits
