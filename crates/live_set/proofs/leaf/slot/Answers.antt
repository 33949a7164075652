use Rattle.live_set.proofs.Kit.{rules, order_of, probe}
use Rattle.std.proofs.lemmas.Fn.{always_returns_same}
use Rattle.live_set.proofs.Slotting.{searched}
use Rattle.live_set.proofs.leaf.slot.Goals as goal

-- the closure compares a load with the pair
pub returns : goal.returns
returns c =
    let facts = c.binary_search_by.ensures in
    let by = facts.position (λ l. order_of l (probe c.args.domain.now c.args.locale.now))
    (always_returns_same _ _ _ (λ a r f' called. search rules)) in
    searched _ _ _ _ c.requires facts.bound by
