use Rattle.entry_search.proofs.Kit.{List, ◌≡◌, ◌∙◌, ap, sym, subst, Contains, Slot, IndexValue, IsIndex}
use Rattle.entry_search.specs.Index.{OneForEachHash}
use Rattle.entry_search.proofs.Indexing.{indexed}
use Rattle.entry_search.proofs.index_slots.index_of.Goals as goal

pub returns : goal.returns
returns c =
    let m = c.args.image.now in
    let slots : List Slot = c.in_ok-slots.slots.items in
    let shared : List Slot = c.in_ok-shared.shared.items in
    let placed : List Slot = c.in_ok-placed.placed.items in
    let one : OneForEachHash slots shared = subst (λ (r : List Slot). OneForEachHash r shared) c.deref.ensures.value
    c.in_ok-shared.ensures.one in
    let same : (x : Slot) → (Contains slots x → Contains placed x)
    × (Contains placed x → Contains slots x) = subst (λ (r : List Slot). (x : Slot)
    → (Contains r x → Contains placed x) × (Contains placed x → Contains r x)) c.deref-2.ensures.value
    c.in_ok-placed.ensures.same in
    let value : c.new-3.result ≡ record { slots = placed; shared = shared } = c.new-3.ensures
    ∙ ap (λ (r : List Slot). record { slots = r; shared = c.new-2.result }) c.new.ensures
    ∙ ap (λ (r : List Slot). record { slots = placed; shared = r }) c.new-2.ensures in
    subst (λ (v : IndexValue). IsIndex m v) (sym value)
    (indexed m slots placed shared c.in_ok-slots.ensures.lawful c.in_ok-slots.ensures.names one same)
