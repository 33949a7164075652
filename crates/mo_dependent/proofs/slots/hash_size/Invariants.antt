use Rattle.std.proofs.Common.{ℕ, ◌<◌, ◌≤◌}
use Rattle.mo_dependent.specs.Hashing.{IsPrime, least_size}
use Rattle.mo_dependent.proofs.slots.hash_size.Given as goal

abbrev pub invariant-sizes : goal.invariant-sizes
invariant-sizes l = (n : ℕ) → least_size l.messages ≤ n → n < l.size → ¬ IsPrime n
