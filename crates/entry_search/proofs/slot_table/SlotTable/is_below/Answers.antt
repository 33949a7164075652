use Rattle.entry_search.proofs.Kit.{List, ◌<◌, length, ap, subst, ltb-true, arith, AllWithin, Slot}
use Rattle.entry_search.proofs.Slots.{below_is}
use Rattle.entry_search.proofs.slot_table.SlotTable.is_below.Goals as goal

pub returns-else-cut-eq0 : goal.returns-else-cut-eq0
returns-else-cut-eq0 c so =
    let slots = c.self.inside.slots.items in
    let bound = c.args.bound in
    subst (λ (r : List Slot). AllWithin (λ (slot : Slot). slot.hash < bound) r 0 c.args.cut) c.self.view_is
    (below_is slots bound c.args.cut c.index.result.now c.self.invariant c.index.ensures
    (omega (arith, c.if-cut-eq0.false)) (omega (arith, c.requires, ap length c.self.view_is)) (ltb-true _ _ so))
