use Rattle.entry_search.proofs.Indexing.{Listed}
use Rattle.entry_search.proofs.index_slots.list_slots.Given as goal

abbrev pub invariant-entries : goal.invariant-entries
invariant-entries l = Listed l.image l.slots.items l.i
