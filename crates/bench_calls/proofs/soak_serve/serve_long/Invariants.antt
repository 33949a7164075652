use Rattle.std.proofs.Common.{◌≡◌, ◌≤◌, All, vec_len}
use Rattle.bench_calls.proofs.soak_serve.serve_long.Given as goal

abbrev pub invariant-services : goal.invariant-services
invariant-services g l = All (λ d. d.reader.book ≡ l.publisher.seen.book) l.desks.items
    × (1 ≤ vec_len l.desks) × (vec_len l.desks ≤ 16)
