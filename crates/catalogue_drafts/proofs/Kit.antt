-- What the proofs of this crate are written in.
pub use Rattle.std.proofs.Common.{Bool, List, None, Option, Ordering, Some, [], ap, arith, cond, false}
pub use Rattle.std.proofs.Common.{get_or, inl, inr, length, map, refl, rules, subst, suc, sym, take, true, zero, ℕ}
pub use Rattle.std.proofs.Common.{◌++◌, ◌+◌, ◌<◌, ◌∙◌, ◌∷◌, ◌≡◌, ◌≤◌}
pub use Rattle.std.proofs.lemmas.Bool.{cases_lt, false≢true}
pub use Rattle.std.proofs.lemmas.Cmp.{nat_list_cmp_total}
pub use Rattle.std.proofs.lemmas.List.{get_or-map, get_or_default, length-map, map-append}
pub use Rattle.std.proofs.lemmas.List.Sums.{sum_by-cons}
pub use Rattle.std.specs.Cmp.{IsTotalOrder}
pub use Rattle.std.specs.Cmp.Lexicographic.{slice_cmp}
pub use Rattle.std.specs.FinMap.{nat_cmp-IsAntisymmetric, slice_cmp-IsAntisymmetric}
pub use Rattle.std.specs.List.{AllByRecursion, filter, filter_map, find, join_with_byte, sum_by}
pub use Rattle.std.specs.Ordering.{is_lt, nat_cmp}
pub use Rattle.std.specs.Prelude.{Contains, IfSome, option_map, ◌⊎◌}
pub use Rattle.std.specs.String.{string_bytes}
pub use Rattle.std.specs.declared.cmp.Ordering.TheVariants.{Equal, Greater, Less}
pub use Rattle.mo_image.specs.Entry.{Entry, IsLawfulEntry, IsText, translation}
pub use Rattle.po_checks.specs.Fails.{HasDistinctKeys, IsDuplicateAt}
pub use Rattle.po_checks.specs.Kept.{is_kept, key_of, message_of}
pub use Rattle.po_checks.specs.Refusal.{kind_of}
pub use Rattle.po_checks.specs.declared.findings.Findings.{Findings}
pub use Rattle.po_checks.specs.declared.options.Options.{Options}
pub use Rattle.catalogue_drafts.specs.Shares.{Kept}
pub use Rattle.catalogue_drafts.specs.Drafts.{IsFirstRepeat, IsLawfulMessage, IsRepeat, Outline, comes_before}
pub use Rattle.catalogue_drafts.specs.Drafts.{kept_entry, outline, outline_of, outlines}
pub use Rattle.catalogue_drafts.specs.Drafts.{outlines_from, texts_of, HasCollected}
pub use Rattle.catalogue_drafts.specs.Refusals.{Refuses}
pub use Rattle.catalogue_drafts.specs.declared.draft.Draft.{Draft}
