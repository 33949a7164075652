-- What the proofs of this crate are written in.
pub use Rattle.std.proofs.Common.{List, None, Option, Some, [], ap, arith, false, get_or, inl, inr, length, ltb-true}
pub use Rattle.std.proofs.Common.{refl, rules, slice_get, subst, sym, true, ℕ, ◌++◌, ◌+◌, ◌-◌, ◌<◌, ◌∙◌, ◌∷◌, ◌≡◌, ◌≤◌}
pub use Rattle.std.proofs.lemmas.Bool.{cases_lt, false≢true}
pub use Rattle.std.proofs.lemmas.List.{get_or_default}
pub use Rattle.std.proofs.lemmas.Slice.Eq.{bytes_eq-Decides}
pub use Rattle.std.specs.Cmp.Lexicographic.{slice_cmp}
pub use Rattle.std.specs.List.{AllWithin}
pub use Rattle.std.specs.Ordering.{nat_cmp}
pub use Rattle.std.specs.Prelude.{Contains, IfSome, option_map}
pub use Rattle.std.specs.Str.{bytes_eq}
pub use Rattle.std.specs.declared.cmp.Ordering.TheVariants.{Equal, Less}
pub use Rattle.mo_image.specs.Entry.{Entry, key, key_bytes}
pub use Rattle.entry_search.specs.Index.{Climbs, HasNoSlot, IndexValue, IsCut, IsIndex, hash_alone, hash_within}
pub use Rattle.entry_search.specs.declared.slot_table.Slot.{Slot}
