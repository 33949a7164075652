use Rattle.std.proofs.Common.{◌≡◌}
use Rattle.po_header.specs.ChoiceSteps.{value_reached}
use Rattle.po_header.proofs.steps.run.Given as goal

abbrev pub invariant-steps : goal.invariant-steps
invariant-steps l = value_reached l.steps l.start l.n ≡ value_reached l.steps l.at l.n

abbrev pub decreases-steps : goal.decreases-steps
decreases-steps l = l.at
