use Rattle.std.proofs.Common.{◌≡◌}
use Rattle.bench_calls.proofs.languages.publish_languages.Given as goal

abbrev pub invariant-languages : goal.invariant-languages
invariant-languages g l = l.publisher.seen.book ≡ l.fn.publisher.seen.book
