-- Private: the entries that the originals and translations of a file make up.
use Rattle.std.specs.Prelude.{ℕ, List}
use Rattle.catalogue.specs.Entry.{Entry}
pub use Rattle.catalogue.specs.Pairs.{plural_part, entry_of, paired_entries}
use Rattle.mo_file.specs.Tables.{strings}
use Rattle.mo_file.specs.MoReading.{count, originals_start, translations_start}

-- the entries of the n rows of two tables
abbrev pub entries_of_rows : (ℕ → List ℕ → ℕ) → List ℕ → ℕ → ℕ → ℕ → List Entry
entries_of_rows number bytes o t n = paired_entries (strings number bytes o n) (strings number bytes t n)

-- the entries of a file
abbrev pub named_in : (ℕ → List ℕ → ℕ) → List ℕ → List Entry
named_in number bytes = entries_of_rows number bytes (originals_start number bytes) (translations_start number bytes)
    (count number bytes)
