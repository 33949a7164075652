-- What the proofs of this crate are written in.
pub use Rattle.std.proofs.Common.{List, None, Option, Some, [], ap, append_assoc, arith, cond, drop, eqb, false, get_or}
pub use Rattle.std.proofs.Common.{length, length-append, map, refl, rules, slice_get, subst, suc, sym, take, true, zero}
pub use Rattle.std.proofs.Common.{ℕ, ◌*◌, ◌++◌, ◌+◌, ◌<◌, ◌==◌, ◌∙◌, ◌∷◌, ◌≡◌, ◌≤◌}
pub use Rattle.std.proofs.lemmas.Bool.{eqb-true}
pub use Rattle.std.proofs.lemmas.List.{append-nil, get_or_at, length-drop, length-map, length-take-le}
pub use Rattle.std.proofs.lemmas.List.Splits.{join_with_byte-slice_split}
pub use Rattle.std.proofs.lemmas.List.Sums.{passes_at_first}
pub use Rattle.std.specs.List.{AllByRecursion, join_with_byte, slice_split}
pub use Rattle.std.specs.Prelude.{IfSome, option_map, slice_index}
pub use Rattle.std.specs.Str.{IsUtf8}
pub use Rattle.byte_text.specs.Cut.{offset_of}
pub use Rattle.byteorder.specs.Endian.{little_number}
pub use Rattle.mo_image.specs.Entry.{Entry, IsLawfulEntry, LacksByte, key, original, translation}
pub use Rattle.mo_image.specs.Extents.{IsNamedAt}
pub use Rattle.mo_image.specs.Image.{IsImage, NamesText}
pub use Rattle.mo_image.specs.MoFile.{header, pairs, pool, with_nul}
pub use Rattle.mo_image.specs.Pairs.{entry_of, key_part}
pub use Rattle.mo_image.specs.Strings.{string_of, strings_of}
pub use Rattle.mo_image.specs.Tables.{string_at, word_at}
