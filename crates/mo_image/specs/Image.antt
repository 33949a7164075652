-- Private: bytes that are the MO file of the entries that its own tables name.
use Rattle.std.specs.Prelude.{◌≡◌, ℕ, ◌+◌, ◌*◌, ◌<◌, ◌≤◌, List, length}
use Rattle.std.specs.Str.{IsUtf8}
use Rattle.byteorder.specs.Endian.{little_number}
use Rattle.mo_image.specs.Entry.{Entry}
use Rattle.mo_image.specs.Map.{IsLawful}
use Rattle.mo_image.specs.MoFile.{header_len, spelling}
use Rattle.mo_image.specs.Tables.{word_at, string_at, strings}
use Rattle.mo_image.specs.Pairs.{paired_entries}

-- the entries that the tables name
unfoldable pub listing : List ℕ → List Entry
listing bytes = paired_entries (strings little_number bytes header_len (word_at little_number bytes 8))
    (strings little_number bytes (header_len + 8 * word_at little_number bytes 8) (word_at little_number bytes 8))

pub record IsImage (bytes : List ℕ) : Type 0 where
  pub lawful : IsLawful (listing bytes)
  pub spelt : bytes ≡ spelling (listing bytes)

-- the row at this offset lies in the bytes, and so does the text that it names, with one more byte after it
pub record NamesText (bytes : List ℕ) (offset : ℕ) : Type 0 where
  pub row : offset + 8 ≤ length bytes
  pub room : word_at little_number bytes (offset + 4) + word_at little_number bytes offset < length bytes
  pub utf8 : IsUtf8 (string_at little_number bytes offset)
