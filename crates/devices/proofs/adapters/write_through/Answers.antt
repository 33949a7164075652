use Rattle.devices.proofs.WriteLemmas.{within_more, written_all, written_kept, written_more}
use Rattle.devices.proofs.adapters.write_through.Goals.{in-Ok-write, in-Err-write+else-ne}
use Rattle.devices.proofs.adapters.write_through.Goals as goal

pub returns-in-Ok-clause-bytes : goal.returns-in-Ok-clause-bytes
returns-in-Ok-clause-bytes g c = written_kept _ _ _ _ (written_all _ _ c.args.bytes.now c.writes.written
    c.if-written-bytes.true c.writes.invariant.appended) c.in-Ok.ensures.bytes

pub writes-preserved : goal.writes-preserved
writes-preserved g c =
    let had = c.writes.invariant in
    elim c.match-write.branch [
      | in-Ok-write w ↦ rw w.written-is (record {
        within = within_more c.args.bytes.now c.writes.written w.in-Ok-write.n had.within w.in-Ok-write.ensures.bound;
        appended = written_more _ _ _ c.args.bytes.now c.writes.written w.in-Ok-write.n had.appended
            w.in-Ok-write.ensures.bytes;
      })
      | in-Err-write+else-ne w ↦ rw w.written-is (record {
        within = had.within;
        appended = written_kept _ _ _ _ had.appended w.in-Err-write.ensures.bytes;
      })
    ]
