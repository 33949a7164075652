use Rattle.std.proofs.Common.{◌≡◌, length}
use Rattle.any_charset.specs.Declaring.{lines, stage_after}
use Rattle.any_charset.specs.declared.front.Stage.TheVariants.{Before}
use Rattle.any_charset.proofs.front.stage_after.Given as goal

abbrev pub invariant-lines : goal.invariant-lines
invariant-lines l = stage_after Before (lines l.fn.text) ≡ stage_after l.stage (lines l.rest)

abbrev pub decreases-lines : goal.decreases-lines
decreases-lines l = length l.rest
