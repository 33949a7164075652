use Rattle.std.proofs.Common.{◌≡◌, take}
use Rattle.numbered_formats.specs.NumberGaps.{largest_number}
use Rattle.numbered_formats.proofs.gaps.largest.Given as goal

abbrev pub invariant-asked : goal.invariant-asked
invariant-asked l = l.most ≡ largest_number (take l.argument-index l.asked)
