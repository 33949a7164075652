use Rattle.entry_search.proofs.Kit.{◌+◌, get_or, refl, arith, get_or_default}
use Rattle.entry_search.proofs.Indexing.{spread_more, spread_same}
use Rattle.entry_search.proofs.index_slots.spread_out.Goals as goal

pub slots-preserved : goal.slots-preserved
slots-preserved c =
    let slots = c.args.slots.now in
    let k = c.slots.slot-index in
    let old = c.slots.placed in
    let new = c.resize.new.self in
    let grown = c.in_ok-resize.ensures in
    spread_more slots old.items new.items k (c.max-end.result + 1) (get_or slots k _) c.requires c.slots-test.true
    (λ d. get_or_default slots k _ d c.slots-test.true) c.slots.invariant
    (omega (arith, old.ok, c.max-end.ensures, c.len.ensures)) (omega (arith, new.ok, grown.len))
    (λ j d lt before. grown.by_index.0 j d lt (omega (arith, old.ok, before)))
    (λ j d from lt. grown.by_index.1 j d refl (omega (arith, old.ok, from)) lt)

pub returns-clause-same : goal.returns-clause-same
returns-clause-same c = spread_same c.args.slots.now c.slots.placed.items c.slots.slot-index c.slots.invariant
    (omega (arith, c.slots-test.false, c.slots.auto.slot-index-end))
