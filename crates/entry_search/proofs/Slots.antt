-- The slots of an index, and the texts that they lead to.
use denote.Ref.{Bor}
use Rattle.entry_search.proofs.Kit.{◌≡◌, ℕ, ◌+◌, ◌-◌, ◌<◌, ◌≤◌, List, length, get_or, Option, Some, None, sym, ap, ◌∙◌}
use Rattle.entry_search.proofs.Kit.{arith, inl, inr, Contains, IfSome, AllWithin, cases_lt, get_or_default, Slot}
use Rattle.entry_search.proofs.Kit.{Climbs, HasNoSlot, IsCut}
use Rattle.std.proofs.Common.{drop}
use Rattle.std.specs.Array.{IsFirstChunk}
use Rattle.std.specs.List.{slice_range}
use Rattle.std.proofs.lemmas.List.{get_or-drop, get_or-take, length-take-le}

pub below_is : (slots : List Slot) (bound cut : ℕ) (slot : Slot) → Climbs slots → slot ≡ get_or slots (cut - 1) slot
    → 0 < cut → cut ≤ length slots → slot.hash < bound → AllWithin (λ r. r.hash < bound) slots 0 cut
below_is slots bound cut slot climbs is some within below k d low h =
    let last = ap (λ (r : Slot). r.hash) (is ∙ get_or_default slots (cut - 1) slot d (omega (arith, some, within))) in
    omega (arith, climbs k (cut - 1) d (omega (arith, h)) (omega (arith, some, within)), last, below)

pub above_is : (slots : List Slot) (bound cut : ℕ) (slot : Slot) → Climbs slots → slot ≡ get_or slots cut slot
    → cut < length slots → bound ≤ slot.hash → AllWithin (λ r. bound ≤ r.hash) slots cut (length slots)
above_is slots bound cut slot climbs is within above k d from h =
    omega (arith, climbs cut k d from h, ap (λ (r : Slot). r.hash) (is ∙ get_or_default slots cut slot d within), above)

pub no_slot : (slots : List Slot) (t cut : ℕ) → Climbs slots → IsCut slots t cut → cut < length slots
    → ((d : Slot) → (get_or slots cut d).hash ≡ t → ⊥) → HasNoSlot slots t
no_slot slots t cut climbs is lt other slot has same = elim (cases_lt has.0 cut) [
  | inl before ↦ omega (arith, is.0 has.0 slot (omega arith) before, ap (λ (r : Slot). r.hash) has.2, same)
  | inr from ↦ omega (
    arith,
    is.1 cut slot (omega arith) lt,
    climbs cut has.0 slot from has.1,
    ap (λ (r : Slot). r.hash)
        has.2,
    same,
    other slot,
  )
]

-- ---- slots near an index

-- a slot among the first slots from an index on is among all of them
pub among_all : (slots behind near : List Slot) (slot_index n : ℕ) (found : Option (Bor Slot))
    → behind ≡ slice_range slots slot_index (length slots) → length behind + slot_index ≡ length slots
    → IsFirstChunk behind near n → IfSome found (λ slot. Contains near slot.now)
    → IfSome found (λ slot. Contains slots slot.now)
among_all slots behind near slot_index n None is long front here = here
among_all slots behind near slot_index n (Some slot) is long front here =
    let all = length slots - slot_index in
    let lt : here.0 < n = omega (arith, here.1, ap length front.same, length-take-le n behind front.enough) in
    let first : get_or near here.0 slot.now ≡ get_or behind here.0 slot.now =
    ap (λ (xs : List Slot). get_or xs here.0 slot.now) front.same ∙ get_or-take n behind here.0 slot.now lt in
    let then : get_or behind here.0 slot.now ≡ get_or slots (slot_index + here.0) slot.now =
    ap (λ (xs : List Slot). get_or xs here.0 slot.now) is
    ∙ get_or-take all (drop slot_index slots) here.0 slot.now (omega (arith, lt, front.enough, long))
    ∙ get_or-drop slot_index slots here.0 slot.now in
    (slot_index + here.0, omega (arith, lt, front.enough, long), sym then ∙ sym first ∙ here.2)
