-- An MO file with a system-dependent part (GNU gettext manual, "MO Files").
--
-- Its parts follow one another: the header; the tables of the static originals and translations; the hash table; the
-- table of the segments; the tables of the offsets of the system-dependent originals' and translations' descriptors;
-- the descriptors; the static strings; the strings of the segments; the system-dependent texts.
use Rattle.std.specs.Prelude.{◌≡◌, ℕ, ◌+◌, ◌*◌, ◌<◌, Bool, nat_lt, if◌then◌else◌, ⊤, List, [], ◌∷◌, ◌++◌, length}
use Rattle.std.specs.Prelude.{map, codes, drop, ◌-◌}
use Rattle.std.specs.List.{flat_map, sum_by}
pub use Rattle.mo_image.specs.Entry.{Entry, key, original, translation}
pub use Rattle.mo_image.specs.MoFile.{magic_number, most_file, word, pairs, pool}
use Rattle.mo_dependent.specs.Splits.{end_of, name_at, texts, text_of, text_pool, Split, SplitText, Dependent}
use Rattle.mo_dependent.specs.Segments.{index_of, segments, segment_rows}
use Rattle.mo_dependent.specs.Hashing.{IsHashSize, IsHashTable}
pub use Rattle.mo_dependent.specs.declared.header.Sizes.{Sizes}
use Rattle.mo_dependent.specs.declared.fault.WriteFault.{WriteFault}
use Rattle.mo_dependent.specs.declared.fault.WriteFault.TheVariants.{TooLarge, Memory}

-- ---- the header

abbrev pub long_header_len : ℕ
long_header_len = 48

-- where the parts begin
abbrev pub slots_at : Sizes → ℕ
slots_at s = long_header_len + 16 * s.statics

abbrev pub segments_at : Sizes → ℕ
segments_at s = slots_at s + 4 * s.slots

abbrev pub pointers_at : Sizes → ℕ
pointers_at s = segments_at s + 8 * s.segments

abbrev pub descriptors_at : Sizes → ℕ
descriptors_at s = pointers_at s + 8 * s.dependents

-- the major revision is 1 if a segment is the flag I; the minor one is 1
abbrev pub revision : Bool → ℕ
revision has_flag = if has_flag then 65537 else 1

abbrev pub header : Sizes → Bool → List ℕ
header s has_flag = word magic_number ++ word (revision has_flag) ++ word s.statics ++ word long_header_len
    ++ word (long_header_len + 8 * s.statics) ++ word s.slots ++ word (slots_at s) ++ word s.segments
    ++ word (segments_at s) ++ word s.dependents ++ word (pointers_at s) ++ word (pointers_at s + 4 * s.dependents)

-- ---- descriptors

-- the number that follows the last piece
abbrev pub no_segment : ℕ
no_segment = 4294967295

-- the rows: the length of each piece, and the number of the segment after it; the last piece has the NUL
abbrev pub rows_from : List (List ℕ) → List ℕ → ℕ → List Split → List ℕ
rows_from names text from [] = word (length (drop from text) + 1) ++ word no_segment
rows_from names text from (s ∷ ss) = word (s.start - from) ++ word (index_of names (name_at text s))
    ++ rows_from names text (end_of s) ss

abbrev pub rows : List (List ℕ) → SplitText → List ℕ
rows names text = rows_from names text.bytes.items 0 text.splits.items

-- the offset of the text, and a row for each split and for the last piece
abbrev pub descriptor_len : SplitText → ℕ
descriptor_len text = 12 + 8 * length text.splits.items

-- the offsets of the descriptors, the first of which is at this offset
abbrev pub pointers : ℕ → List SplitText → List ℕ
pointers at [] = []
pointers at (t ∷ ts) = word at ++ pointers (at + descriptor_len t) ts

-- the descriptors, where the first text is at this offset
abbrev pub descriptors : List (List ℕ) → ℕ → List SplitText → List ℕ
descriptors names at [] = []
descriptors names at (t ∷ ts) = word at ++ rows names t ++ descriptors names (at + length (text_of t)) ts

-- ---- the file

-- the static strings: the originals, and the translations after them
abbrev pub strings : List Entry → List (List ℕ)
strings m = map original m ++ map translation m

abbrev pub sizes_of : List Entry → List Dependent → List ℕ → Sizes
sizes_of m messages slots = record {
  statics = length m;
  slots = length slots;
  segments = length (segments messages);
  dependents = length messages;
}

abbrev pub has_flag : List (List ℕ) → Bool
has_flag names = nat_lt (index_of names (codes "I")) (length names)

-- where the strings begin
abbrev pub strings_at : List Entry → List Dependent → List ℕ → ℕ
strings_at m messages slots = descriptors_at (sizes_of m messages slots) + sum_by descriptor_len (texts messages)

abbrev pub names_at : List Entry → List Dependent → List ℕ → ℕ
names_at m messages slots = strings_at m messages slots + length (pool (strings m))

abbrev pub texts_at : List Entry → List Dependent → List ℕ → ℕ
texts_at m messages slots = names_at m messages slots + length (pool (segments messages))

-- the file with these slots
abbrev pub file_with : List Entry → List Dependent → List ℕ → List ℕ
file_with m messages slots = header (sizes_of m messages slots) (has_flag (segments messages))
    ++ pairs (strings_at m messages slots) (strings m)
    ++ flat_map word slots
    ++ segment_rows (names_at m messages slots) (segments messages)
    ++ pointers (descriptors_at (sizes_of m messages slots)) (texts messages)
    ++ descriptors (segments messages) (texts_at m messages slots) (texts messages)
    ++ pool (strings m) ++ pool (segments messages) ++ text_pool (texts messages)

-- the bytes are the file of static messages and system-dependent ones; the latter count for the hash table's size
pub record IsDependentFile (m : List Entry) (messages : List Dependent) (bytes : List ℕ) : Type 0 where
  pub slots : List ℕ
  pub size : IsHashSize (length m + length messages) (length slots)
  pub table : IsHashTable (length slots) (map key m) slots
  pub spelt : bytes ≡ file_with m messages slots

-- why no file is written: it would be larger than the largest file, or memory has run out
abbrev pub IsWriteFault : List Entry → List Dependent → WriteFault → Type 0
IsWriteFault m messages TooLarge = (bytes : List ℕ) → IsDependentFile m messages bytes → most_file < length bytes
IsWriteFault m messages Memory = ⊤
