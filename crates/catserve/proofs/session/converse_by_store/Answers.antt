use Rattle.catserve.proofs.Common.{err_from_is_err_and, OutputSeen, output_seen}
use Rattle.catserve.proofs.SessionEnds.{stops_unopened}
use Rattle.catserve.proofs.SessionInTime.{ends_at}
use Rattle.catserve.proofs.session.converse_by_store.Goals as goal

pub returns-in_err-player-clause-all : goal.returns-in_err-player-clause-all
returns-in_err-player-clause-all g c given first b =
    let o : OutputSeen = output_seen g.D.Sink.contents g.D.Sink.failures c.args.device.now in
    let e = err_from_is_err_and c.from_residual.result c.from_residual.ensures.1 in
    rw (e.1, e.2) (stops_unopened o b c.in_err-player.field-0.0 c.in_err-player.ensures.fault)

pub returns-in_err-player-clause-in_time : goal.returns-in_err-player-clause-in_time
returns-in_err-player-clause-in_time g c given first b before begun = ends_at begun
