-- The texts that the rows of a table name.
use Rattle.mo_image.proofs.Kit.{◌≡◌, ℕ, List, refl, sym, subst, arith, IsUtf8, little_number, string_at, NamesText}
use Rattle.mo_image.proofs.Kit.{IsNamedAt}
use Rattle.mo_image.specs.declared.extent.Extent.{Extent}
use Rattle.mo_image.specs.Extents.{piece, HoldsPiece}

pub piece_named : (bytes : List ℕ) (offset : ℕ) (extent : Extent) → IsNamedAt bytes offset extent → piece bytes extent
    ≡ string_at little_number bytes offset
piece_named bytes offset extent h = rw (h.len, h.start) refl

pub piece_held : (bytes : List ℕ) (offset : ℕ) (extent : Extent) → IsNamedAt bytes offset extent
    → NamesText bytes offset → HoldsPiece bytes extent
piece_held bytes offset extent h text = record {
  room = omega (arith, h.len, h.start, text.room);
  utf8 = subst IsUtf8 (sym (piece_named bytes offset extent h)) text.utf8;
}
