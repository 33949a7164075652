use Rattle.std.proofs.Common.{◌≡◌}
use Rattle.test_every_call.proofs.calls.walk.Given as goal

abbrev pub invariant-steps : goal.invariant-steps
invariant-steps g l = (l.publisher.seen.book ≡ l.fn.publisher.seen.book) × (l.reader.book ≡ l.fn.reader.book)
