use Rattle.std.proofs.Common.{◌-◌}
use Rattle.entry_search.proofs.Searching.{Range}
use Rattle.entry_search.proofs.find.search.Given as goal

abbrev pub invariant-halves : goal.invariant-halves
invariant-halves g l = Range l.image l.sought l.fn.steps l.steps l.low l.high

abbrev pub decreases-halves : goal.decreases-halves
decreases-halves g l = l.high - l.low
