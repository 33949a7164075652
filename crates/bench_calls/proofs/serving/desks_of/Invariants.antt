use Rattle.std.proofs.Common.{◌≡◌, ◌+◌, All, vec_len}
use Rattle.bench_calls.proofs.serving.desks_of.Given as goal

abbrev pub invariant-readers : goal.invariant-readers
invariant-readers l =
    (vec_len l.readers + l.counter ≡ vec_len l.fn.readers) × (vec_len l.desks ≡ l.counter)
    × All (λ r. r.book ≡ l.publisher.seen.book) l.readers.items
    × All (λ d. d.reader.book ≡ l.publisher.seen.book) l.desks.items
