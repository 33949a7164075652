-- What the proofs of this crate are written in.
pub use Rattle.catalogue_drafts.proofs.Kit.{Bool, List, None, Option, Ordering, Some, [], ap, arith, cond, false}
pub use Rattle.catalogue_drafts.proofs.Kit.{get_or, inl, inr, length, map, refl, subst, suc, sym, take, true, zero, ℕ}
pub use Rattle.catalogue_drafts.proofs.Kit.{◌++◌, ◌+◌, ◌<◌, ◌∙◌, ◌∷◌, ◌≡◌, ◌≤◌, cases_lt, false≢true}
pub use Rattle.catalogue_drafts.proofs.Kit.{nat_list_cmp_total, get_or-map, get_or_default, length-map, map-append}
pub use Rattle.catalogue_drafts.proofs.Kit.{sum_by-cons, IsTotalOrder, slice_cmp, nat_cmp-IsAntisymmetric}
pub use Rattle.catalogue_drafts.proofs.Kit.{slice_cmp-IsAntisymmetric, AllByRecursion, filter, filter_map, find, sum_by}
pub use Rattle.catalogue_drafts.proofs.Kit.{is_lt, nat_cmp, Contains, IfSome, option_map, ◌⊎◌, Equal, Greater, Less}
pub use Rattle.catalogue_drafts.proofs.Kit.{Entry, IsLawfulEntry, translation, HasDistinctKeys, IsDuplicateAt, is_kept}
pub use Rattle.catalogue_drafts.proofs.Kit.{key_of, message_of, kind_of, Findings, Options, Kept, IsFirstRepeat}
pub use Rattle.catalogue_drafts.proofs.Kit.{IsLawfulMessage, IsRepeat, Outline, comes_before, kept_entry, outline}
pub use Rattle.catalogue_drafts.proofs.Kit.{outline_of, outlines, outlines_from, texts_of, Refuses}
pub use Rattle.std.proofs.Common.{append_assoc, ◌^◌}
pub use Rattle.std.proofs.lemmas.List.{append-nil}
pub use Rattle.std.proofs.lemmas.List.Concat.{flat_map-cons}
pub use Rattle.std.proofs.lemmas.List.Elements.{All-contains}
pub use Rattle.std.specs.List.{count_by}
pub use Rattle.std.specs.Str.{bytes_eq}
pub use Rattle.mo_image.proofs.MoLengths.{length-with_nul}
pub use Rattle.mo_image.specs.Entry.{key}
pub use Rattle.mo_image.specs.Map.{HasAcceptedCharset, Rises}
pub use Rattle.mo_image.specs.MoFile.{pool}
pub use Rattle.po_checks.specs.Fails.{Fails, IsFirst}
pub use Rattle.po_checks.specs.Kept.{header_line_of, kept_entries}
pub use Rattle.po_checks.specs.declared.fault.LoadKind.{LoadKind}
pub use Rattle.po_checks.specs.declared.fault.LoadKind.TheVariants.{BadEscape, BadIndex, BadOrder, BadText, BadWord}
pub use Rattle.po_checks.specs.declared.fault.LoadKind.TheVariants.{NotUtf8, OpenString, TooLarge}
pub use Rattle.catalogue_drafts.specs.Drafts.{FirstRepeat, counts_as, is_kept_header}
pub use Rattle.catalogue.specs.Meaning.{IsMapOf, Means}
pub use Rattle.catalogue_drafts.specs.declared.texts.Standing.TheVariants.{Fuzzy, Translated, Untranslated}
pub use Rattle.catalogue_drafts.specs.declared.draft.Draft.{Draft}
pub use Rattle.catalogue.specs.declared.compiler.Compiled.{Compiled}
