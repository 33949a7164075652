use Rattle.catserve.proofs.Common.{◌≡◌, ◌++◌, length, escaped_text}
use Rattle.catserve.proofs.output.write_escaped.Given as goal

abbrev pub invariant-runs : goal.invariant-runs
invariant-runs l = l.output.items ++ escaped_text l.rest ≡ l.fn.output.items ++ escaped_text l.text

abbrev pub decreases-runs : goal.decreases-runs
decreases-runs l = length l.rest
