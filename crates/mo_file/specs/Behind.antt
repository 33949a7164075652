-- Private: files whose tables and strings are laid out as in a file that is written.
use Rattle.std.specs.Prelude.{◌≡◌, ℕ, zero, suc, ◌+◌, ◌*◌, List}
use Rattle.byteorder.specs.Endian.{little_number}
use Rattle.catalogue.specs.MoFile.{header_len}
use Rattle.mo_file.specs.Tables.{word_at}

-- the two tables of n rows directly follow the header, and there is no hash table
pub record IsInOrder (bytes : List ℕ) (n : ℕ) : Type 0 where
  pub originals : word_at little_number bytes 12 ≡ header_len
  pub translations : word_at little_number bytes 16 ≡ header_len + 8 * n
  pub slots : word_at little_number bytes 20 ≡ 0
  pub hashes : word_at little_number bytes 24 ≡ header_len + 16 * n

-- the strings of the n rows from this offset on follow one another from `at` to `end`, each with one more byte
abbrev pub StandBehind : List ℕ → ℕ → ℕ → ℕ → ℕ → Type 0
StandBehind bytes offset zero at end = at ≡ end
StandBehind bytes offset (suc n) at end = (word_at little_number bytes (offset + 4) ≡ at)
    × StandBehind bytes (offset + 8) n (at + word_at little_number bytes offset + 1) end
