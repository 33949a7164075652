-- What a PO text means to the compiler: a catalogue with its counts, or a refusal (GNU gettext manual, "msgfmt
-- Invocation").
use Rattle.std.specs.Prelude.{◌≡◌, ℕ, ◌&&◌, not, Bool, if◌then◌else◌, false, List, [], ◌∷◌, map, All, Contains}
use Rattle.std.specs.Prelude.{Option, Some, None}
use Rattle.std.specs.List.{filter, count_by}
use Rattle.po_text.specs.Entries as po
use Rattle.po_text.specs.Outcome as po_outcome
use Rattle.po_header.specs.Fields.{missing}
use Rattle.mo_image.specs.Entry.{Entry, key}
use Rattle.mo_image.specs.Map.{Rises}
pub use Rattle.po_checks.specs.Kept.{message_of, key_of, is_header, is_untranslated, is_kept, kept_entries, kept_header}
pub use Rattle.po_checks.specs.Kept.{header_line_of, header_text_of, HasHeaderRule, NamesAcceptedCharset}
pub use Rattle.po_checks.specs.Fails.{Fails, IsFirst, rank}
pub use Rattle.catalogue_drafts.specs.Refusals.{Refuses}
use Rattle.po_checks.specs.declared.options.Options.{Options}
use Rattle.po_checks.specs.declared.fault.LoadKind.{LoadKind}
use Rattle.catalogue_drafts.specs.declared.stats.Stats.{Stats}
use Rattle.catalogue.specs.declared.compiler.Compiled.{Compiled}

-- the map of the kept entries: it lists them and nothing else, in rising order of their keys
pub record IsMapOf (entries : List po.Entry) (m : List Entry) : Type 0 where
  pub rises : Rises (map key m)
  pub listed : All (Contains m) (map message_of entries)
  pub nothing_else : All (Contains (map message_of entries)) m

-- the entries that the statistics count: all but the header; of these, each is untranslated, else fuzzy, else
-- translated
abbrev pub counted_entries : List po.Entry → List po.Entry
counted_entries entries = filter (λ e. not (is_header e)) entries

abbrev pub is_fuzzy : po.Entry → Bool
is_fuzzy e = not (is_untranslated e) && e.fuzzy

abbrev pub is_translated : po.Entry → Bool
is_translated e = not (is_untranslated e) && not e.fuzzy

abbrev pub stats_of : List po.Entry → Stats
stats_of entries = record {
  translated = count_by is_translated (counted_entries entries);
  fuzzy = count_by is_fuzzy (counted_entries entries);
  untranslated = count_by is_untranslated (counted_entries entries);
}

-- no field is missing
abbrev pub none_missing : List Bool
none_missing = false ∷ false ∷ false ∷ false ∷ false ∷ false ∷ false ∷ false ∷ []

-- which of the eight fields a header's text lacks (GNU gettext manual, "Header Entry")
abbrev pub lacking_fields : Option (List ℕ) → List Bool
lacking_fields None = none_missing
lacking_fields (Some text) = missing text

-- which of the eight fields the kept header lacks, at the checked level; none at the other
abbrev pub missing_of : Options → List po.Entry → List Bool
missing_of options entries = if options.checked then lacking_fields (header_text_of options entries) else none_missing

-- ---- the text

-- the text compiles to this, and nothing refuses its entries
pub record Means (text : List ℕ) (options : Options) (compiled : Compiled) : Type 0 where
  pub entries : List po.Entry
  pub gives : po_outcome.Gives text entries
  pub passes : (kind : LoadKind) (line : ℕ) → ¬ Fails options entries kind line
  pub map_is : IsMapOf (kept_entries options entries) compiled.catalogue
  pub stats_are : compiled.stats ≡ stats_of entries
  pub header_line_is : compiled.header_line ≡ header_line_of options entries
  pub missing_is : compiled.missing ≡ missing_of options entries
