use Rattle.live_set.proofs.Kit.{◌≡◌, ◌+◌, flat_map, length, take, loads_in}
use Rattle.live_set.proofs.runs.load_in.Given as goal

abbrev pub invariant-runs : goal.invariant-runs
invariant-runs g l = l.index ≡ length (flat_map (loads_in g.R.Run.loads) (take l.run-index l.runs)) + l.left
