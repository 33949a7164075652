use Rattle.entry_search.proofs.Kit.{List, ◌≤◌, length, ap, subst, arith, AllWithin, Slot}
use Rattle.std.proofs.Common.{leb-true}
use Rattle.entry_search.proofs.Slots.{above_is}
use Rattle.entry_search.proofs.slot_table.SlotTable.is_above.Goals as goal

pub returns-else-cut-len : goal.returns-else-cut-len
returns-else-cut-len c so =
    let slots = c.self.inside.slots.items in
    let bound = c.args.bound in
    subst (λ (r : List Slot). AllWithin (λ (slot : Slot). bound ≤ slot.hash) r c.args.cut (length r)) c.self.view_is
    (above_is slots bound c.args.cut c.index.result.now c.self.invariant c.index.ensures
    (omega (arith, c.requires, ap length c.self.view_is, c.if-cut-len.false, c.len.ensures, c.self.inside.slots.ok))
    (leb-true _ _ so))
