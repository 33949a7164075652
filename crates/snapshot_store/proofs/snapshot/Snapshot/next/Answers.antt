use Rattle.std.proofs.Common.{ap, arith}
use Rattle.live_loads.specs.Batches.{version_of}
use Rattle.live_loads.proofs.Joining.{version-add}
use Rattle.snapshot_store.proofs.snapshot.Snapshot.next.Goals as goal

pub invariant_of-next : goal.invariant_of-next
invariant_of-next c =
    let grown = ap (λ s. s.batches) c.in_ok-seen.ensures.seen in
    let more = version-add c.self.inside.seen.batches c.args.batch.now.items in (
      omega (arith, ap version_of grown, more, c.self.invariant.0, c.len.ensures),
      cc (c.requires.set, grown, c.self.view_is),
    )
