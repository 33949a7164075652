use Rattle.std.proofs.Common.{◌≡◌, ℕ, ◌<◌, false, get_or}
use Rattle.bstr.specs.Find.{is_byte}
use Rattle.byte_text.proofs.offset.offset_by_bytes.Given as goal

abbrev pub invariant-loop-i : goal.invariant-loop-i
invariant-loop-i l = (k : ℕ) → k < l.i → is_byte l.byte (get_or l.bytes k 0) ≡ false
