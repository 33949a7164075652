-- Private: how entries count in the statistics.
use Rattle.std.specs.Prelude.{Bool, true, false, if◌then◌else◌, List}
use Rattle.std.specs.List.{count_by}
use Rattle.po_text.specs.Entries as po
pub use Rattle.po_checks.specs.Kept.{is_header, is_untranslated}
pub use Rattle.catalogue.specs.declared.Stats.{Stats}
pub use Rattle.dependent_po.specs.declared.counts.Standing.{Standing}
use Rattle.dependent_po.specs.declared.counts.Standing.TheVariants.{Header, Untranslated, Fuzzy, Translated}

abbrev pub standing_of : po.Entry → Standing
standing_of e =
    if is_header e then Header else
    if is_untranslated e then Untranslated else
    if e.fuzzy then Fuzzy else Translated

abbrev pub same_standing : Standing → Standing → Bool
same_standing Header Header = true
same_standing Untranslated Untranslated = true
same_standing Fuzzy Fuzzy = true
same_standing Translated Translated = true
same_standing _ _ = false

abbrev pub stats_by : List Standing → Stats
stats_by standings = record {
  translated = count_by (same_standing Translated) standings;
  fuzzy = count_by (same_standing Fuzzy) standings;
  untranslated = count_by (same_standing Untranslated) standings;
}
