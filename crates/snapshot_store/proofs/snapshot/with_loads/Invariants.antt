use Rattle.std.proofs.Common.{◌≡◌, fold, take}
use Rattle.live_set.specs.Sets.{with_load}
use Rattle.snapshot_store.proofs.snapshot.with_loads.Given as goal

abbrev pub invariant-loads : goal.invariant-loads
invariant-loads l = l.grown ≡ fold with_load l.fn.set (take l.load-index l.loads.items)
