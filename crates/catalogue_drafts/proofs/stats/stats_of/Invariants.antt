use Rattle.catalogue_drafts.proofs.Kit.{◌≡◌, ◌≤◌, take, outline}
use Rattle.std.specs.List.{count_by}
use Rattle.catalogue_drafts.specs.Drafts.{counts_as}
use Rattle.catalogue_drafts.specs.declared.texts.Standing.TheVariants.{Fuzzy, Translated, Untranslated}
use Rattle.catalogue_drafts.proofs.stats.stats_of.Given as goal

abbrev pub invariant-drafts : goal.invariant-drafts
invariant-drafts l = record {
  translated : l.stats.translated ≡ count_by (λ d. counts_as Translated (outline d)) (take l.draft-index l.drafts);
  fuzzy : l.stats.fuzzy ≡ count_by (λ d. counts_as Fuzzy (outline d)) (take l.draft-index l.drafts);
  untranslated : l.stats.untranslated
      ≡ count_by (λ d. counts_as Untranslated (outline d)) (take l.draft-index l.drafts);
  few_translated : l.stats.translated ≤ l.draft-index;
  few_fuzzy : l.stats.fuzzy ≤ l.draft-index;
  few_untranslated : l.stats.untranslated ≤ l.draft-index;
}
