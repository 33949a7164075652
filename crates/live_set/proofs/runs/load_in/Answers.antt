use Rattle.live_set.proofs.Kit.{slice_get, ap, sym, ◌∙◌, arith, loads_in}
use Rattle.live_set.proofs.Indexing.{load_here}
use Rattle.live_set.proofs.runs.load_in.Goals as goal

pub returns-in-Ok : goal.returns-in-Ok
returns-in-Ok g c =
    let of = g.R.Run.loads in
    load_here (loads_in of) c.args.runs.now c.runs.run-index c.run-item.result
    (omega (arith, c.runs-test.true, c.runs.auto.run-index-end)) c.run-item.is c.args.index c.runs.left
    c.runs.invariant c.in-Ok.load.now
    (ap (λ r. slice_get (of r) c.runs.left) (sym c.deref.ensures) ∙ c.in-Ok.ensures)
