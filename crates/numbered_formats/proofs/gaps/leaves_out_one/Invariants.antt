use Rattle.std.proofs.Common.{◌≡◌, ◌≤◌, ◌-◌}
use Rattle.numbered_arguments.specs.NumberedIndex.{has_in}
use Rattle.numbered_formats.specs.NumberGaps.{left_out}
use Rattle.numbered_formats.proofs.gaps.leaves_out_one.Given as goal

abbrev pub invariant-numbers : goal.invariant-numbers
invariant-numbers l = (l.left_out ≡ left_out (has_in l.index) l.number) × (l.left_out ≤ 1) × (l.number ≤ l.last)

abbrev pub decreases-numbers : goal.decreases-numbers
decreases-numbers l = l.last - l.number
