use Rattle.std.proofs.Common.{◌≢◌, ℕ, ◌<◌, ◌%◌}
use Rattle.mo_dependent.proofs.slots.is_prime.Given as goal

abbrev pub invariant-divisors : goal.invariant-divisors
invariant-divisors l = (e : ℕ) → 1 < e → e < l.d → l.n % e ≢ 0
