use Rattle.std.proofs.Common.{◌≡◌}
use Rattle.mo_tables.specs.Claims.{claims_to}
use Rattle.mo_tables.proofs.claims.read_claims.Given as goal

abbrev pub invariant-loop-i : goal.invariant-loop-i
invariant-loop-i l = l.claims.items ≡ claims_to l.rows l.i
