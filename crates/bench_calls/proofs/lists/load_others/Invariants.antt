use Rattle.std.proofs.Common.{◌≡◌}
use Rattle.bench_calls.proofs.lists.load_others.Given as goal

abbrev pub invariant-others : goal.invariant-others
invariant-others g l = l.publisher.seen.book ≡ l.fn.publisher.seen.book
