use Rattle.std.proofs.Common.{arith, inl, inr}
use Rattle.std.proofs.lemmas.Bool.{cases_lt}
use Rattle.mo_dependent.proofs.Primes.{not_prime}
use Rattle.mo_dependent.proofs.slots.hash_size.Goals as goal

pub sizes-preserved : goal.sizes-preserved
sizes-preserved c = λ n least lt prime. elim (cases_lt n c.sizes.size) [
  | inl before ↦ c.sizes.invariant n least before prime
  | inr here ↦ not_prime c.is_prime.result c.sizes.size n c.is_prime.ensures c.if-is_prime.false
      (omega (arith, here, lt))
      prime
]

pub returns : goal.returns
returns c = λ size h. elim (cases_lt size c.sizes.size) [
  | inl before ↦ absurd (c.sizes.invariant size h.enough before h.prime)
  | inr there ↦ omega (arith, there, c.sizes-test.false)
]
