use Rattle.std.proofs.Common.{◌≡◌, false, length}
use Rattle.java_formats.specs.JavaElements.{is_decimal}
use Rattle.java_formats.proofs.decimals.is_decimal.Given as goal

abbrev pub invariant-bytes : goal.invariant-bytes
invariant-bytes l = is_decimal l.escaped l.quoted l.found l.rest ≡ is_decimal 0 false false l.style

abbrev pub decreases-bytes : goal.decreases-bytes
decreases-bytes l = length l.rest
