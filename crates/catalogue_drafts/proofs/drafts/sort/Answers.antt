use Rattle.catalogue_drafts.proofs.Kit.{rules, comes_before}
use Rattle.std.proofs.lemmas.List.Sorted.{answers_always}
use Rattle.catalogue_drafts.proofs.OutlineOrder.{draft_order}
use Rattle.catalogue_drafts.proofs.drafts.sort.Goals as goal

pub returns-clause-sorted : goal.returns-clause-sorted
returns-clause-sorted c = c.sort_unstable_by.ensures.sorted comes_before draft_order
    (answers_always _ _ _ (λ f a r q k. search rules))
