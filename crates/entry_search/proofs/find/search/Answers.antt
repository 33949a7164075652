use Rattle.entry_search.proofs.Kit.{◌<◌, length, sym, ◌∙◌, arith, Equal}
use Rattle.entry_search.proofs.Searching.{goes_up, goes_down, cost_here, cost_there, found_equal, missing, order_at}
use Rattle.entry_search.proofs.Searching.{some_at}
use Rattle.entry_search.proofs.find.search.Goals as goal

pub halves-preserved-in-Less : goal.halves-preserved-in-Less
halves-preserved-in-Less g c = goes_up _ _ _ _ _ _ _ _ c.halves.invariant c.len-high.ensures.lawful.rises
    c.halves-test.true c.middle-mid.ensures c.in-Less.ensures.step c.in-Less.ensures.order

pub halves-preserved : goal.halves-preserved
halves-preserved g c = goes_down _ _ _ _ _ _ _ _ c.halves.invariant c.len-high.ensures.lawful.rises c.halves-test.true
    c.middle-mid.ensures c.in-Greater.ensures.step c.in-Greater.ensures.order

pub returns-in-Equal-clause-cost : goal.returns-in-Equal-clause-cost
returns-in-Equal-clause-cost g c = cost_here _ _ _ _ _ _ _ c.halves.invariant c.halves-test.true c.in-Equal.ensures.step

pub returns-in-Equal-clause-found : goal.returns-in-Equal-clause-found
returns-in-Equal-clause-found g c =
    let m = c.args.image.now in
    let mid = c.middle-mid.result in
    let asked = c.args.sought.now in
    let within : mid < length m = omega (arith, c.halves-test.true, c.middle-mid.ensures, c.halves.invariant.within) in
    let here = some_at m mid within in (
      within,
      found_equal m mid here.0 asked c.len-high.ensures.lawful.rises here.1
          (order_at m mid here.0 asked Equal c.in-Equal.ensures.order here.1) ∙ sym here.1,
    )

pub returns-clause-found : goal.returns-clause-found
returns-clause-found g c = missing _ _ _ _ c.halves.invariant.below c.halves.invariant.above c.halves-test.false

pub returns-clause-cost : goal.returns-clause-cost
returns-clause-cost g c = cost_there _ _ _ _ _ _ c.halves.invariant
