use Rattle.catalogue_drafts.proofs.Kit.{ℕ, List, Option, Some, ap, sym, ◌∙◌, Entry, Kept}
use Rattle.catalogue_drafts.specs.Shares.{kept_texts}
use Rattle.catalogue_drafts.specs.Drafts.{draft_entry, entry_with, outline}
use Rattle.mo_image.proofs.Lists.{image_at}
use Rattle.catalogue_drafts.proofs.drafts.KeptDraftsEntryList.strings_at.Goals as goal

pub returns-in-Some : goal.returns-in-Some
returns-in-Some c =
    image_at draft_entry c.args.self.now.drafts.items c.args.i c.index-draft.result.now c.requires c.index-draft.ensures
    ∙ ap (λ (e : Entry). Some e) (ap (λ (t : Option Kept). entry_with (outline c.index-draft.result.now).key t)
    (sym c.in-Some.ensures) ∙ ap (λ (k : List ℕ). entry_with k (Some (kept_texts c.in-Some.texts)))
    (sym c.key.ensures) ∙ sym c.new.ensures)
