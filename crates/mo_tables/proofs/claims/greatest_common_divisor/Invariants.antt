use Rattle.std.proofs.Common.{◌≤◌}
use Rattle.mo_tables.proofs.claims.greatest_common_divisor.Given as goal

abbrev pub invariant-steps : goal.invariant-steps
invariant-steps l = (l.divisor ≤ l.fn.b) × (l.rest ≤ l.fn.b)

abbrev pub decreases-steps : goal.decreases-steps
decreases-steps l = l.rest
