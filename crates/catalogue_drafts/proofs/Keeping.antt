-- The drafts that are kept, as entries.
use Rattle.catalogue_drafts.proofs.Kit.{◌≡◌, take, Bool, List, [], ◌∷◌, Option, Some, None, refl, ap, ◌∙◌}
use Rattle.catalogue_drafts.proofs.Kit.{filter, filter_map, Entry, outlines, kept_entry, Draft, Kept}
use Rattle.std.specs.Prelude.{is_some}
use Rattle.catalogue_drafts.specs.Drafts.{entry_with, drafts_entries, kept_in}
use Rattle.catalogue_drafts.specs.Shares.{texts_by}

abbrev pub has_texts : Draft → Bool
has_texts d = is_some (texts_by d.share (kept_in d))

kept_step : (d : Draft) (ds : List Draft) (t : Option Kept) → texts_by d.share (kept_in d) ≡ t
    → drafts_entries (filter has_texts ds) ≡ filter_map kept_entry (outlines ds)
    → drafts_entries (filter has_texts (d ∷ ds)) ≡ filter_map kept_entry (outlines (d ∷ ds))
kept_step d ds None is rest = rw is rest
kept_step d ds (Some t) is rest = rw is
    (ap (λ (x : Option Kept). entry_with (take d.key_len d.text.now) x ∷ drafts_entries (filter has_texts ds)) is
    ∙ ap (λ (es : List Entry). entry_with (take d.key_len d.text.now) (Some t) ∷ es) rest)

pub kept_are : (ds : List Draft) → drafts_entries (filter has_texts ds) ≡ filter_map kept_entry (outlines ds)
kept_are [] = refl
kept_are (d ∷ ds) = kept_step d ds (texts_by d.share (kept_in d)) refl (kept_are ds)
