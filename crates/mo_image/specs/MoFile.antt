-- The one MO file that is written of a map: revision 0, little-endian, no hash table (GNU gettext manual, "MO Files").
use Rattle.std.specs.Prelude.{ℕ, ◌+◌, ◌*◌, List, [], ◌∷◌, ◌++◌, length, map}
use Rattle.std.specs.List.{flat_map}
use Rattle.byteorder.specs.Endian.{little_bytes}
use Rattle.mo_image.specs.Entry.{Entry, original, translation}

-- the number that an MO file begins with
abbrev pub magic_number : ℕ
magic_number = 0x950412de

-- the length of the header in bytes: seven words
abbrev pub header_len : ℕ
header_len = 28

-- the maximum size of a file in bytes: 256 MiB (ours)
abbrev pub most_file : ℕ
most_file = 268435456

-- a little-endian word of 32 bits
unfoldable pub word : ℕ → List ℕ
word n = little_bytes 4 n

-- a table: the length and the offset of each string, where the strings follow one another from `at` on, each with a NUL
-- after it
abbrev pub pairs : ℕ → List (List ℕ) → List ℕ
pairs at [] = []
pairs at (s ∷ ss) = word (length s) ++ word at ++ pairs (at + length s + 1) ss

abbrev pub with_nul : List ℕ → List ℕ
with_nul s = s ++ (0 ∷ [])

-- all strings one after another, each with a NUL after it
abbrev pub pool : List (List ℕ) → List ℕ
pool ss = flat_map with_nul ss

-- the magic number, the revision, the number of strings, the offsets of the two tables, and an empty hash table after
-- them
abbrev pub header : ℕ → List ℕ
header n = word magic_number ++ word 0 ++ word n ++ word header_len ++ word (header_len + 8 * n) ++ word 0
    ++ word (header_len + 16 * n)

-- the file of n originals and n translations
abbrev pub file : ℕ → List (List ℕ) → List (List ℕ) → List ℕ
file n originals translations =
    header n ++ pairs (header_len + 16 * n) originals
    ++ pairs (header_len + 16 * n + length (pool originals)) translations ++ pool originals ++ pool translations

-- the one file of a map, whose entries are in rising order of their keys
unfoldable pub spelling : List Entry → List ℕ
spelling m = file (length m) (map original m) (map translation m)

-- the number of bytes that an entry takes in the file: a row in each table, and its two strings
abbrev pub entry_size : Entry → ℕ
entry_size e = 16 + length (with_nul (original e)) + length (with_nul (translation e))
