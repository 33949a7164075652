use Rattle.std.proofs.Common.{◌≡◌, ◌-◌, ◌<◌, ℕ, false, get_or, length}
use Rattle.bstr.specs.Find.{is_byte}
use Rattle.byte_text.proofs.offset.offset_by.Given as goal

abbrev pub invariant-vectors : goal.invariant-vectors
invariant-vectors g l = (k : ℕ) → k < l.at → is_byte l.byte (get_or l.bytes k 0) ≡ false

abbrev pub decreases-vectors : goal.decreases-vectors
decreases-vectors g l = length l.bytes - l.at
