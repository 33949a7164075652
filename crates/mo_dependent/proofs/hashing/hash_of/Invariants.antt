use Rattle.std.proofs.Common.{◌≡◌, drop}
use Rattle.mo_dependent.specs.Hashing.{hash_from}
use Rattle.mo_dependent.proofs.hashing.hash_of.Given as goal

abbrev pub invariant-bytes : goal.invariant-bytes
invariant-bytes l = hash_from l.hash (drop l.i l.key) ≡ hash_from 0 l.key
