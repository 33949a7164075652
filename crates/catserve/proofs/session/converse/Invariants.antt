use Rattle.catserve.proofs.Common.{◌-◌, input_seen, output_seen, TalksInTime}
use Rattle.catserve.proofs.session.converse.Given as goal

abbrev pub invariant-lines : goal.invariant-lines
invariant-lines g l = TalksInTime l.workers
    (input_seen g.D.Source.remaining g.D.Source.reads g.D.Source.failures l.fn.device)
    (input_seen g.D.Source.remaining g.D.Source.reads g.D.Source.failures l.device)
    (output_seen g.D.Sink.contents g.D.Sink.failures l.fn.device)
    (output_seen g.D.Sink.contents g.D.Sink.failures l.device) l.fn.hearing l.hearing l.fn.player l.player
    (g.D.Device.log l.fn.device) (g.D.Device.log l.device)

abbrev pub decreases-lines : goal.decreases-lines
decreases-lines g l = 18446744073709551616 - l.hearing.number
