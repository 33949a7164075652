use Rattle.po_text.proofs.Kit.{List, ◌∷◌, [], ◌++◌, map, ap, ◌∙◌, map-append}
use Rattle.po_text.specs.Views.{Content, entry_view}
use Rattle.po_text.proofs.read.push_copy.Goals as goal

pub returns : goal.returns
returns c =
    let old = c.args.entries.now.items in
    ap (map entry_view) c.in_ok-push.ensures.items ∙ map-append entry_view old (c.in_ok-entry.entry ∷ [])
    ∙ ap (λ (x : Content). map entry_view old ++ (x ∷ [])) c.in_ok-entry.ensures
