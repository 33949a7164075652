use Rattle.catserve.proofs.Common.{◌≡◌, [], into_iter_items, into_iter_len, readers_of, AreAsked}
use Rattle.catserve.proofs.Turns.{HasTaken}
use Rattle.catserve.proofs.asking.open_desks.Given as goal

abbrev pub invariant-readers : goal.invariant-readers
invariant-readers l = record {
  taken : HasTaken (into_iter_items l.initial.reader-iterator) l.yielded (into_iter_items l.reader-iterator)
      (into_iter_len l.reader-iterator);
  readers : readers_of l.desks.items ≡ l.yielded;
  free : AreAsked 0 [] l.desks.items;
}
