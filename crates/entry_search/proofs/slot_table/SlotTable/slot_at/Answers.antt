use Rattle.entry_search.proofs.Kit.{◌≡◌, ℕ, ◌<◌, List, length, ltb-true, ◌∙◌, sym, ap, subst, get_or_default, Slot}
use Rattle.entry_search.proofs.Kit.{Climbs, HasNoSlot, IsCut}
use Rattle.entry_search.proofs.Slots.{no_slot}
use Rattle.entry_search.proofs.slot_table.SlotTable.slot_at.Goals as goal

pub returns-else-slot-hash-clause-none : goal.returns-else-slot-hash-clause-none
returns-else-slot-hash-clause-none c =
    let slots : List Slot = c.deref.result.now in
    let t : ℕ = c.args.hash in
    let slot_index : ℕ = c.args.cut in
    let same : slots ≡ c.args.self.now = c.deref.ensures.value ∙ c.self.view_is in
    let lookup = c.in_ok-slot.ensures.lookup in
    let within : slot_index < length slots = ltb-true _ _ (sym lookup.0) in
    let climbs : Climbs slots = subst (λ (r : List Slot). Climbs r) (sym c.deref.ensures.value) c.self.invariant in
    let cut : IsCut slots t slot_index = subst (λ (r : List Slot). IsCut r t slot_index) (sym same) c.requires in
    let none : HasNoSlot slots t = no_slot slots t slot_index climbs cut within
    (λ d e. c.if-slot-hash.false (ap (λ (r : Slot). r.hash)
    (lookup.1 ∙ get_or_default slots slot_index c.in_ok-slot.slot.now d within) ∙ e)) in
    subst (λ (r : List Slot). HasNoSlot r t) same none
