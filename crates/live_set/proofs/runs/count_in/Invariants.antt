use Rattle.live_set.proofs.Kit.{◌≡◌, ◌++◌, length, flat_map, min, take, loads_in}
use Rattle.live_set.proofs.runs.count_in.Given as goal

abbrev pub invariant-runs : goal.invariant-runs
invariant-runs g l =
    let of = g.R.Run.loads in
    l.count ≡ min (length (of l.first ++ flat_map (loads_in of) (take l.run-index l.later))) 18446744073709551615
