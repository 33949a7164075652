-- What the proofs of this crate are written in.
pub use Rattle.std.proofs.Common.{Bool, List, None, Ordering, Some, [], ap, append_assoc, arith, cond, false, get_or}
pub use Rattle.std.proofs.Common.{length, map, refl, rules, subst, suc, sym, take, true, zero, ℕ}
pub use Rattle.std.proofs.Common.{◌++◌, ◌+◌, ◌<◌, ◌∙◌, ◌∷◌, ◌≡◌}
pub use Rattle.std.proofs.lemmas.Bool.{false≢true}
pub use Rattle.std.proofs.lemmas.List.{append-nil, map-append}
pub use Rattle.std.proofs.lemmas.List.Concat.{flat_map-cons}
pub use Rattle.std.proofs.lemmas.List.Sums.{sum_by-cons}
pub use Rattle.std.specs.List.{AllByRecursion, find, join_with_byte, sum_by}
pub use Rattle.std.specs.Ordering.{is_lt}
pub use Rattle.std.specs.Prelude.{IfSome, option_map}
pub use Rattle.std.specs.Str.{bytes_eq}
pub use Rattle.std.specs.String.{string_bytes}
pub use Rattle.std.specs.declared.cmp.Ordering.TheVariants.{Less}
pub use Rattle.mo_image.proofs.MoLengths.{length-with_nul}
pub use Rattle.mo_image.specs.Entry.{Entry, IsLawfulEntry, key, translation}
pub use Rattle.mo_image.specs.Map.{HasAcceptedCharset, Rises}
pub use Rattle.mo_image.specs.MoFile.{pool}
pub use Rattle.catalogue_map.specs.Messages.{message_entry}
pub use Rattle.catalogue_map.specs.Sizes.{capped_number}
