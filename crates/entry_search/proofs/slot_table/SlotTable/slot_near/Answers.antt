use Rattle.entry_search.proofs.Kit.{List, ◌∙◌, subst, Contains, IfSome, Slot}
use Rattle.entry_search.proofs.Slots.{among_all}
use Rattle.entry_search.proofs.slot_table.SlotTable.slot_near.Goals as goal

pub returns-in-Some-clause-some : goal.returns-in-Some-clause-some
returns-in-Some-clause-some c =
    let behind = c.in_ok-behind.ensures.lookup.0 in
    subst (λ (slots : List Slot). IfSome c.slot_in.result (λ slot. Contains slots slot.now))
    (c.deref.ensures.value ∙ c.self.view_is)
    (among_all c.deref.result.now c.in_ok-behind.behind.now c.in-Some.near.now c.args.slot_index _ c.slot_in.result
    behind.2 behind.3 c.in-Some.ensures.cases c.slot_in.ensures.some)
