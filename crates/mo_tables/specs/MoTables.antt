-- The tables of an MO file, in either byte order, and what is lawful of the strings that they name (GNU gettext manual,
-- "MO Files").
use Rattle.std.specs.Prelude.{◌≡◌, ℕ, ◌+◌, ◌*◌, ◌<◌, ◌≤◌, ◌==◌, List, [], length, slice_index, count_by}
use Rattle.std.specs.List.{before_first}
use Rattle.std.specs.Ordering.{nat_cmp}
use Rattle.std.specs.declared.cmp.Ordering.TheVariants.{Less}
use Rattle.std.specs.Cmp.Lexicographic.{slice_cmp}
use Rattle.std.specs.Str.{IsUtf8}
use Rattle.mo_image.specs.Map.{HasAcceptedCharset}
use Rattle.mo_image.specs.MoFile.{most_file, file}
use Rattle.mo_image.specs.Tables.{word_at, string_at, strings}

-- ---- a table of strings

-- a table: how the file's words are read, the file's bytes, where the table begins, and its number of rows, which have
-- 8 bytes each
pub record Table : Type 0 where
  pub number : ℕ → List ℕ → ℕ
  pub bytes : List ℕ
  pub start : ℕ
  pub count : ℕ

-- the table of n rows that begins at this offset
abbrev pub table_at : (ℕ → List ℕ → ℕ) → List ℕ → ℕ → ℕ → Table
table_at number bytes start n = record { number = number; bytes = bytes; start = start; count = n }

-- where the i-th row begins
abbrev pub row : Table → ℕ → ℕ
row table i = table.start + 8 * i

-- the string that the i-th row names
abbrev pub string_in : Table → ℕ → List ℕ
string_in table i = string_at table.number table.bytes (row table i)

-- the strings that the rows name
abbrev pub strings_in : Table → List (List ℕ)
strings_in table = strings table.number table.bytes table.start table.count

-- ---- one string

-- the string of this row and one more byte after it lie in the file
abbrev pub StringLies : (ℕ → List ℕ → ℕ) → List ℕ → ℕ → Type 0
StringLies number bytes offset = word_at number bytes (offset + 4) + word_at number bytes offset < length bytes

-- the string of this row is followed by a NUL
abbrev pub HasNul : (ℕ → List ℕ → ℕ) → List ℕ → ℕ → Type 0
HasNul number bytes offset = slice_index bytes (word_at number bytes (offset + 4) + word_at number bytes offset) ≡ 0

-- what precedes the first NUL: the key of an original, or the first form of a translation
abbrev pub before_nul : List ℕ → List ℕ
before_nul text = before_first (λ b. b == 0) text

-- an original is UTF-8, with EOT (byte 4) at most once in its key
pub record IsOriginalText (o : List ℕ) : Type 0 where
  pub utf8 : IsUtf8 o
  pub separators : count_by (λ b. b == 4) (before_nul o) ≤ 1

-- a translation is UTF-8
pub record IsTranslationText (t : List ℕ) : Type 0 where
  pub utf8 : IsUtf8 t

-- the original holds NUL at most once, and if it holds none the translation is a single form
pub record HasLawfulForms (o t : List ℕ) : Type 0 where
  pub plurals : count_by (λ b. b == 0) o ≤ 1
  pub alone : count_by (λ b. b == 0) o ≡ 0 → count_by (λ b. b == 0) t ≡ 0

-- an entry with the empty key is the header: its first form names no charset or an accepted one
pub record HasLawfulHeader (o t : List ℕ) : Type 0 where
  pub accepted : before_nul o ≡ [] → HasAcceptedCharset (before_nul t)

-- ---- the strings of a table, or of two

-- the table and all its strings lie in the file
pub record TableLies (table : Table) : Type 0 where
  pub rows : 0 < table.count → table.start + 8 * table.count ≤ length table.bytes
  pub strings : (i : ℕ) → i < table.count → StringLies table.number table.bytes (row table i)

-- every string is followed by a NUL
pub record AllHaveNul (table : Table) : Type 0 where
  pub each : (i : ℕ) → i < table.count → HasNul table.number table.bytes (row table i)

-- every string is a lawful original
pub record AreOriginalTexts (table : Table) : Type 0 where
  pub each : (i : ℕ) → i < table.count → IsOriginalText (string_in table i)

-- every string is a lawful translation
pub record AreTranslationTexts (table : Table) : Type 0 where
  pub each : (i : ℕ) → i < table.count → IsTranslationText (string_in table i)

-- every original and its translation have lawful forms
pub record HaveLawfulForms (originals translations : Table) : Type 0 where
  pub each : (i : ℕ) → i < originals.count → HasLawfulForms (string_in originals i) (string_in translations i)

-- each key is below the next one, byte by byte
pub record KeysRise (originals : Table) : Type 0 where
  pub each : (i : ℕ) → i + 1 < originals.count
      → slice_cmp nat_cmp (before_nul (string_in originals i)) (before_nul (string_in originals (i + 1))) ≡ Less

-- the header, if there is one, is lawful
pub record HaveLawfulHeaders (originals translations : Table) : Type 0 where
  pub each : (i : ℕ) → i < originals.count → HasLawfulHeader (string_in originals i) (string_in translations i)

-- the one file that is written of these strings has at most 268,435,456 bytes
pub record Fits (originals translations : Table) : Type 0 where
  pub short : length (file originals.count (strings_in originals) (strings_in translations)) ≤ most_file

-- a NUL ends each string of both tables, and they pass all their tests
pub record AreSound (originals translations : Table) : Type 0 where
  pub originals_have_nul : AllHaveNul originals
  pub translations_have_nul : AllHaveNul translations
  pub original_texts : AreOriginalTexts originals
  pub translation_texts : AreTranslationTexts translations
  pub forms : HaveLawfulForms originals translations
  pub rise : KeysRise originals
  pub headers : HaveLawfulHeaders originals translations
