use Rattle.entry_search.proofs.Kit.{rules, Slot}
use Rattle.std.proofs.lemmas.List.Sorted.{IsNonDecreasingBy-from_sort_by_key}
use Rattle.entry_search.proofs.Indexing.{named_in_order}
use Rattle.entry_search.proofs.index_slots.sort_slots.Goals as goal

pub returns-clause-names : goal.returns-clause-names
returns-clause-names c = named_in_order c.args.image.now c.in_ok-slots.slots.items c.sort_unstable_by_key.new.self.items
    c.sort_unstable_by_key.ensures.permutation c.in_ok-slots.ensures.names

pub returns-clause-climbs : goal.returns-clause-climbs
returns-clause-climbs c = IsNonDecreasingBy-from_sort_by_key (λ (slot : Slot). slot.hash)
    c.sort_unstable_by_key.new.self.items c.sort_unstable_by_key.ensures.sorted (λ a r q k. search rules)
