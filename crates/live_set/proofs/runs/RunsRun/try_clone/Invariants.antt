use Rattle.live_set.proofs.Kit.{◌≡◌, ◌<◌, take, length, flat_map, AllByRecursion, loads_in}
use Rattle.live_set.proofs.runs.RunsRun.try_clone.Given as goal

abbrev pub invariant-runs : goal.invariant-runs
invariant-runs g l =
    let of = loads_in g.R.Run.loads in
    record {
      same : flat_map of l.later.items ≡ flat_map of (take l.run-index l.self-inside.later.items);
      some : AllByRecursion (λ run. 0 < length (of run)) l.later.items;
    }
