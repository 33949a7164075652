use Rattle.po_text.proofs.Kit.{◌≡◌, ◌<◌, ◌-◌, ℕ, true, get_or, length, is_simple}
use Rattle.po_text.proofs.plain.are_simple.Given as goal

abbrev pub invariant-vectors : goal.invariant-vectors
invariant-vectors l = (k : ℕ) → k < l.at → is_simple (get_or l.bytes k 0) ≡ true

abbrev pub decreases-vectors : goal.decreases-vectors
decreases-vectors l = length l.bytes - l.at
