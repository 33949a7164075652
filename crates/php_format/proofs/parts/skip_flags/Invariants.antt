use Rattle.std.proofs.Common.{ℕ, length}
use Rattle.php_format.specs.PhpPieces.{Flags}
use Rattle.php_format.proofs.parts.skip_flags.Given as goal

abbrev pub invariant-flags : goal.invariant-flags
invariant-flags l = (n : ℕ) × Flags n l.text l.rest

abbrev pub decreases-flags : goal.decreases-flags
decreases-flags l = length l.rest
