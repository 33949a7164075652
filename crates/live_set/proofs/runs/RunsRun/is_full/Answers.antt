use Rattle.live_set.proofs.Kit.{◌<◌, length, flat_map, subst, arith, length-append, loads_in}
use Rattle.live_set.proofs.Running.{some_dropped}
use Rattle.live_set.proofs.runs.RunsRun.is_full.Goals as goal

pub returns : goal.returns
returns g c = λ full.
    let now = c.self.inside in
    let of = loads_in g.R.Run.loads in
    let some : 0 < length now.later.items = grind (arith, full, c.len.ensures, now.later.ok) in
    subst (λ l. 0 < length l) c.self.view_is (omega (
      arith,
      some_dropped of now.later.items 0 c.self.invariant.has some,
      length-append (g.R.Run.loads now.first) (flat_map of now.later.items),
    ))
