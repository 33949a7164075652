-- What the proofs of this crate are written in.
pub use Rattle.std.proofs.Common.{Bool, Bor, Equal, Greater, Less, List, MatchOption, None, Option, Ordering, Some, []}
pub use Rattle.std.proofs.Common.{ap, arith, cond, drop, false, filter, find, flat_map, get_or, inl, inr, insert}
pub use Rattle.std.proofs.Common.{length, map, min, refl, rules, set, slice_get, subst, suc, sym, take, true, zero, ℕ}
pub use Rattle.std.proofs.Common.{◌++◌, ◌+◌, ◌-◌, ◌<◌, ◌||◌, ◌∙◌, ◌∷◌, ◌≡◌, ◌≤◌}
pub use Rattle.std.proofs.lemmas.Bool.{cases_lt, false≢true}
pub use Rattle.std.proofs.lemmas.Cmp.{alike_right}
pub use Rattle.std.proofs.lemmas.List.{append-nil, get_or_default, length-append}
pub use Rattle.std.specs.List.{AllByRecursion}
pub use Rattle.std.specs.Ordering.{is_lt}
pub use Rattle.std.specs.Str.{IsUtf8}
pub use Rattle.catalogue.specs.Entry.{Entry}
pub use Rattle.live_set.specs.Asks.{has_key}
pub use Rattle.live_set.specs.LanguageList.{language_behind, locales_of, members, named_locales}
pub use Rattle.live_set.specs.LoadRuns.{loads_in}
pub use Rattle.live_set.specs.Loads.{LoadValue, is_for, map_or_empty}
pub use Rattle.live_set.specs.Names.{IsName}
pub use Rattle.live_set.specs.Placing.{IsPlaceFor}
pub use Rattle.live_set.specs.SetPlaces.{map_at}
pub use Rattle.live_set.specs.Sets.{SetValue, map_in}
pub use Rattle.live_set.specs.Slots.{IsAt, Rises, is_before, order_of, probe, with_slot}
