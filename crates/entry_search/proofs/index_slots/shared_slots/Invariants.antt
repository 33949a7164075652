use Rattle.entry_search.proofs.Indexing.{Shared}
use Rattle.entry_search.proofs.index_slots.shared_slots.Given as goal

abbrev pub invariant-slots : goal.invariant-slots
invariant-slots l = Shared l.slots l.i l.shared.items
