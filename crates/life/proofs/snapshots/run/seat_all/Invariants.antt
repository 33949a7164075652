use Rattle.life.proofs.Common.{AllByRecursion, ◌≡◌, map}
use Rattle.life.proofs.snapshots.run.seat_all.Given as goal

abbrev pub invariant-lists : goal.invariant-lists
invariant-lists l = (map (λ c. c.requests) l.clients.items ≡ l.yielded)
    × AllByRecursion (λ c. c.reader ≡ l.publisher.seen) l.clients.items
