use Rattle.std.proofs.Common.{◌≡◌, take}
use Rattle.live_set.proofs.leaf.copied.Given as goal

abbrev pub invariant-loads : goal.invariant-loads
invariant-loads l = l.copy.items ≡ take l.load-index l.run
