use Rattle.std.proofs.Common.{ℕ, length}
use Rattle.python_brace_format.specs.BraceFields.{Accesses}
use Rattle.python_brace_format.proofs.fields.skip_accesses.Given as goal

abbrev pub invariant-accesses : goal.invariant-accesses
invariant-accesses l = (n : ℕ) × Accesses n l.text l.rest

abbrev pub decreases-accesses : goal.decreases-accesses
decreases-accesses l = length l.rest
