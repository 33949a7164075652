-- Where the strings of an entry lie in an MO file (GNU gettext manual, "MO Files").
use Rattle.std.specs.Prelude.{◌≡◌, ℕ, ◌+◌, ◌*◌, ◌<◌, ◌≤◌, List, length, take, drop, slice_index}
use Rattle.std.specs.Str.{IsUtf8}
use Rattle.byteorder.specs.Endian.{little_number}
use Rattle.byte_text.specs.Cut.{offset_of}
use Rattle.mo_image.specs.MoFile.{header_len}
use Rattle.mo_image.specs.Tables.{string_at, word_at}
use Rattle.mo_image.specs.declared.extent.EntryExtents.{EntryExtents}
use Rattle.mo_image.specs.declared.extent.Extent.{Extent}
use Rattle.mo_image.specs.declared.extent.TextExtents.{TextExtents}

-- the bytes of an extent
abbrev pub piece : List ℕ → Extent → List ℕ
piece bytes extent = take extent.len (drop extent.start bytes)

pub record HoldsPiece (bytes : List ℕ) (extent : Extent) : Type 0 where
  pub room : extent.start + extent.len ≤ length bytes
  pub utf8 : IsUtf8 (piece bytes extent)

-- the bytes of an extent are followed by a NUL
pub record HoldsWithNul (bytes : List ℕ) (extent : Extent) : Type 0 where
  pub piece : HoldsPiece bytes extent
  pub room : extent.start + extent.len < length bytes
  pub nul : slice_index bytes (extent.start + extent.len) ≡ 0

-- the extent has the length and the offset that the row at this offset holds
pub record IsNamedAt (bytes : List ℕ) (offset : ℕ) (extent : Extent) : Type 0 where
  pub len : extent.len ≡ word_at little_number bytes offset
  pub start : extent.start ≡ word_at little_number bytes (offset + 4)

-- the extents of the texts of the i-th of n entries in a file
pub record AreTextsOf (bytes : List ℕ) (n i : ℕ) (texts : TextExtents) : Type 0 where
  pub within : i < n
  pub original : IsNamedAt bytes (header_len + 8 * i) texts.original
  pub translation : IsNamedAt bytes (header_len + 8 * n + 8 * i) texts.translation
  pub key_len : texts.key_len ≡ offset_of 0 (string_at little_number bytes (header_len + 8 * i))

-- in place of a key's length, if the lengths don't fit
abbrev pub no_len : ℕ
no_len = 255

abbrev pub text_extents : EntryExtents → TextExtents
text_extents extents = record {
  original = record { start = extents.original; len = extents.key_len + extents.rest_len };
  translation = record { start = extents.translation; len = extents.translation_len };
  key_len = extents.key_len;
}

-- the extents of the i-th of n entries: its number if its lengths don't fit, and otherwise those of its texts
pub record AreExtentsOf (bytes : List ℕ) (n i : ℕ) (extents : EntryExtents) : Type 0 where
  pub within : i < n
  pub long : extents.key_len ≡ no_len → extents.original ≡ i
  pub short : (extents.key_len ≡ no_len → ⊥) → AreTextsOf bytes n i (text_extents extents)

-- the extents of one of the n entries
abbrev pub AreExtents : List ℕ → ℕ → EntryExtents → Type 0
AreExtents bytes n extents = (i : ℕ) × AreExtentsOf bytes n i extents

-- the same for the texts
abbrev pub AreTexts : List ℕ → ℕ → TextExtents → Type 0
AreTexts bytes n texts = (i : ℕ) × AreTextsOf bytes n i texts
