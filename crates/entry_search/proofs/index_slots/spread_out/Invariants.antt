use Rattle.entry_search.proofs.Indexing.{Spread}
use Rattle.entry_search.proofs.index_slots.spread_out.Given as goal

abbrev pub invariant-slots : goal.invariant-slots
invariant-slots l = Spread l.slots l.slot-index l.placed.items
