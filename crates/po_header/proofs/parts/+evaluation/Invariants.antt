use Rattle.std.proofs.Common.{◌+◌, ◌*◌, length}
use Rattle.po_header.proofs.parts.+evaluation.Given as goal

abbrev pub decreases-part_value : goal.decreases-part_value
decreases-part_value l = 2 * length l.below.now + 1

abbrev pub decreases-value_at : goal.decreases-value_at
decreases-value_at l = 2 * length l.parts.now
