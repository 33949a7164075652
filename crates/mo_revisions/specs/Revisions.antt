-- The messages of MO files of the revisions 0.0, 0.1, 1.0 and 1.1 (GNU gettext manual, "MO Files").
use Rattle.std.specs.Prelude.{◌≡◌, ◌≢◌, ℕ, zero, suc, ◌+◌, ◌*◌, ◌/◌, ◌%◌, ◌≤◌, List, [], ◌∷◌, ◌++◌, length}
use Rattle.mo_image.specs.Tables.{word_at, string_at}
use Rattle.mo_file.specs.MoReading.{File, count, originals_start, translations_start, Passes}
use Rattle.mo_file.specs.declared.fault.MoFault.TheVariants.{Bounds, Swollen, NoNul, Order}
use Rattle.mo_segments.specs.Descriptors.{segment_values}
use Rattle.mo_segments.specs.Expanding.{AreSegments}
use Rattle.mo_segments.specs.MessageStrings.{Strings}
use Rattle.mo_segments.specs.Dependents.{TablesLie, AreRead}

-- ---- the header

-- the major and the minor revision: the two halves of the second word
abbrev pub major : File → ℕ
major file = word_at file.number file.bytes 4 / 65536

abbrev pub minor : File → ℕ
minor file = word_at file.number file.bytes 4 % 65536

-- the revisions that are read: 0 or 1, and 0 or 1
pub record IsKnownRevision (file : File) : Type 0 where
  pub major_is : major file ≤ 1
  pub minor_is : minor file ≤ 1

-- the number of segments, and where their table begins
abbrev pub segment_count : File → ℕ
segment_count file = word_at file.number file.bytes 28

abbrev pub segments_start : File → ℕ
segments_start file = word_at file.number file.bytes 32

-- ---- the static messages

-- the first n static messages: the strings of two tables
abbrev pub static_messages : (ℕ → List ℕ → ℕ) → List ℕ → ℕ → ℕ → ℕ → List Strings
static_messages number bytes originals translations zero = []
static_messages number bytes originals translations (suc n) = static_messages number bytes originals translations n
    ++ (string_at number bytes (originals + 8 * n), string_at number bytes (translations + 8 * n)) ∷ []

-- the static messages of a file
abbrev pub statics : File → List Strings
statics file = static_messages file.number file.bytes (originals_start file.number file.bytes)
    (translations_start file.number file.bytes) (count file.number file.bytes)

-- the revision is one that is read, and the static tables pass these tests
pub record IsStaticSound (file : File) : Type 0 where
  pub known : IsKnownRevision file
  pub bounds : Passes file Bounds
  pub fits : Passes file Swollen
  pub with_nul : Passes file NoNul
  pub rise : Passes file Order

-- ---- the system-dependent messages

-- the tables of the system-dependent part lie in the file
pub record IsDependentThere (file : File) : Type 0 where
  pub tables : TablesLie file.number file.bytes
  pub segments : segments_start file + 8 * segment_count file ≤ length file.bytes

-- each segment lies in the file and ends in a NUL
abbrev pub HasSegments : File → Type 0
HasSegments file = AreSegments file.number file.bytes (segments_start file) (segment_count file)

-- these are the static messages of a file, and after them the system-dependent ones that the machine knows
pub record HasDependent (file : File) (messages : List Strings) : Type 0 where
  pub there : IsDependentThere file
  pub segments : HasSegments file
  pub read : AreRead file.number file.bytes
      (segment_values file.number file.bytes (segments_start file) (segment_count file)) (statics file) messages

-- ---- all messages

-- the messages of a file: the static ones alone, or with the others where the minor revision is 1
pub record HasMessages (file : File) (messages : List Strings) : Type 0 where
  pub sound : IsStaticSound file
  pub static_alone : minor file ≡ 0 → messages ≡ statics file
  pub dependent : minor file ≢ 0 → HasDependent file messages
