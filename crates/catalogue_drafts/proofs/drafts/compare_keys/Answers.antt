use Rattle.catalogue_drafts.proofs.Kit.{◌∙◌}
use Rattle.byte_text.proofs.Fronts.{by_next}
use Rattle.catalogue_drafts.proofs.Keying.{one_front}
use Rattle.catalogue_drafts.proofs.drafts.compare_keys.Goals as goal

pub returns-then-a-b-2 : goal.returns-then-a-b-2
returns-then-a-b-2 c =
    let a = c.args.a.now.keyed in
    let b = c.args.b.now.keyed in
    c.cmp.ensures
    ∙ by_next _ _ _ _ (one_front _ _ _ _ a.front_is b.front_is c.if-a-b.true) a.next_is b.next_is c.if-a-b-2.true
