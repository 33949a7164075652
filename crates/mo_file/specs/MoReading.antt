-- Which bytes are an MO file, of which map, and why other bytes are refused (GNU gettext manual, "MO Files").
use Rattle.std.specs.Prelude.{◌≡◌, ℕ, ◌<◌, ◌≤◌, ⊤, ◌==◌, if◌then◌else◌, List, length, map}
use Rattle.byteorder.specs.Endian.{little_number, big_number}
use Rattle.catalogue.specs.Entry.{Entry, original, translation}
use Rattle.catalogue.specs.MoFile.{header_len, magic_number, most_file}
use Rattle.catalogue.specs.Map.{IsLawful}
use Rattle.mo_file.specs.Tables.{word_at}
pub use Rattle.mo_tables.specs.MoTables.{Table, table_at, row, string_in, strings_in, StringLies, HasNul, before_nul}
pub use Rattle.mo_tables.specs.MoTables.{IsOriginalText, IsTranslationText, HasLawfulForms, HasLawfulHeader}
pub use Rattle.mo_tables.specs.MoTables.{TableLies, AllHaveNul, AreOriginalTexts, AreTranslationTexts, HaveLawfulForms}
pub use Rattle.mo_tables.specs.MoTables.{KeysRise, HaveLawfulHeaders, Fits}
use Rattle.mo_file.specs.declared.fault.MoFault.{MoFault}
use Rattle.mo_file.specs.declared.fault.MoFault.TheVariants.{TooLarge, Short, Magic, Revision, Bounds, NoNul, BadText}
use Rattle.mo_file.specs.declared.fault.MoFault.TheVariants.{Forms, Order, Charset, Swollen, Memory}

-- ---- a file and its two tables of strings

-- a file: how its words are read, its bytes, the table of the originals, and the table of the translations
pub record File : Type 0 where
  pub number : ℕ → List ℕ → ℕ
  pub bytes : List ℕ
  pub originals : Table
  pub translations : Table

-- the number of rows of each table, by the header
abbrev pub count : (ℕ → List ℕ → ℕ) → List ℕ → ℕ
count number bytes = word_at number bytes 8

-- where the table of the originals begins, by the header
abbrev pub originals_start : (ℕ → List ℕ → ℕ) → List ℕ → ℕ
originals_start number bytes = word_at number bytes 12

-- where the table of the translations begins, by the header
abbrev pub translations_start : (ℕ → List ℕ → ℕ) → List ℕ → ℕ
translations_start number bytes = word_at number bytes 16

-- the bytes as a file, with words that `number` reads
abbrev pub file_by : (ℕ → List ℕ → ℕ) → List ℕ → File
file_by number bytes = record {
  number = number;
  bytes = bytes;
  originals = table_at number bytes (originals_start number bytes) (count number bytes);
  translations = table_at number bytes (translations_start number bytes) (count number bytes);
}

-- how the file's words are read: little-endian if the magic number is stored so, else big-endian
abbrev pub order : List ℕ → ℕ → List ℕ → ℕ
order bytes = if word_at little_number bytes 0 == magic_number then little_number else big_number

-- the bytes as a file, in the byte order of its magic number
abbrev pub file_of : List ℕ → File
file_of bytes = file_by (order bytes) bytes

-- ---- the refusals

-- the file passes the test of this refusal; `Memory` says nothing about the bytes
abbrev pub Passes : File → MoFault → Type 0
Passes file TooLarge = length file.bytes ≤ most_file
Passes file Short = header_len ≤ length file.bytes
Passes file Magic = word_at file.number file.bytes 0 ≡ magic_number
Passes file Revision = word_at file.number file.bytes 4 ≡ 0
Passes file Bounds = TableLies file.originals × TableLies file.translations
Passes file NoNul = AllHaveNul file.originals × AllHaveNul file.translations
Passes file BadText = AreOriginalTexts file.originals × AreTranslationTexts file.translations
Passes file Forms = HaveLawfulForms file.originals file.translations
Passes file Order = KeysRise file.originals
Passes file Charset = HaveLawfulHeaders file.originals file.translations
Passes file Swollen = Fits file.originals file.translations
Passes file Memory = ⊤

-- the order in which refusals are reported
abbrev pub rank : MoFault → ℕ
rank TooLarge = 1
rank Short = 2
rank Magic = 3
rank Revision = 4
rank Bounds = 5
rank NoNul = 6
rank BadText = 7
rank Forms = 8
rank Order = 9
rank Charset = 10
rank Swollen = 11
rank Memory = 12

-- the file passes all tests of a rank below n
abbrev pub PassesBelow : File → ℕ → Type 0
PassesBelow file n = (fault : MoFault) → rank fault < n → Passes file fault

-- the first refusal whose test the file fails, or out of memory
abbrev pub RefusedBy : File → MoFault → Type 0
RefusedBy file fault = rank fault < 12 → ¬ Passes file fault × PassesBelow file (rank fault)

-- the bytes are refused for this, in the byte order of their magic number
abbrev pub Refused : List ℕ → MoFault → Type 0
Refused bytes fault = RefusedBy (file_of bytes) fault

-- the bytes are an MO file of the map: they pass every test, and their tables name the originals and the translations
-- of the map's entries
pub record Mo (bytes : List ℕ) (m : List Entry) : Type 0 where
  pub lawful : IsLawful m
  pub passed : PassesBelow (file_of bytes) 12
  pub originals : map original m ≡ strings_in (file_of bytes).originals
  pub translations : map translation m ≡ strings_in (file_of bytes).translations

-- the bytes are an MO file of some map
abbrev pub IsMoFile : List ℕ → Type 0
IsMoFile bytes = (m : List Entry) × Mo bytes m
