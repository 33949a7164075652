use Rattle.catserve.proofs.Common.{ℕ, List, ◌-◌, ◌≡◌, input_seen}
use Rattle.catserve.proofs.SessionInTime.{PassesInTime}
use Rattle.catserve.proofs.hearing.Hearing.hear_preamble.Given as goal

abbrev pub invariant-preamble : goal.invariant-preamble
invariant-preamble g l = (front : List (List ℕ)) × PassesInTime
    (input_seen g.R.Source.remaining g.R.Source.reads g.R.Source.failures l.fn.reader)
    (input_seen g.R.Source.remaining g.R.Source.reads g.R.Source.failures l.reader) l.self front
    (g.R.Device.log l.fn.reader) (g.R.Device.log l.reader)
    × (g.R.Device.output l.reader ≡ g.R.Device.output l.fn.reader)

abbrev pub decreases-preamble : goal.decreases-preamble
decreases-preamble g l = 9223372036854775808 - l.self.number
