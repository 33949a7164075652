use Rattle.std.proofs.Common.{rules, ap, ◌∙◌}
use Rattle.std.proofs.lemmas.Fn.{filter_same}
use Rattle.catalogue_drafts.specs.Drafts.{drafts_entries}
use Rattle.catalogue_drafts.proofs.Keeping.{has_texts, kept_are}
use Rattle.catalogue_drafts.proofs.drafts.keep.Goals as goal

pub returns : goal.returns
returns c = ap drafts_entries (filter_same _ has_texts _ (λ x b f' k. search rules) _ _ c.retain.ensures.filtered)
    ∙ kept_are c.args.drafts.now.items
