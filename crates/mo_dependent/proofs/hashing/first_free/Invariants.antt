use Rattle.std.proofs.Common.{◌≢◌, ℕ, ◌<◌, length}
use Rattle.std.specs.Prelude.{slice_index}
use Rattle.mo_dependent.specs.Hashing.{probe}
use Rattle.mo_dependent.proofs.hashing.first_free.Given as goal

abbrev pub invariant-tries : goal.invariant-tries
invariant-tries l = (k : ℕ) → k < l.k → slice_index l.slots (probe (length l.slots) l.hash k) ≢ 0
