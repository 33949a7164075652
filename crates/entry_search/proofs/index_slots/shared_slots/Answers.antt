use Rattle.entry_search.proofs.Kit.{◌+◌, List, ap, sym, subst, get_or_default, Slot}
use Rattle.entry_search.proofs.Indexing.{Shared, own_hashes, shared_same, shared_more}
use Rattle.entry_search.proofs.index_slots.shared_slots.Goals as goal
use Rattle.entry_search.proofs.index_slots.shared_slots.Goals.{then-slots-i+in_ok-push, else-slots-i}

pub slots-preserved : goal.slots-preserved
slots-preserved c = elim c.if-slots-i.branch [
  | then-slots-i+in_ok-push w ↦ subst (λ (r : List Slot). Shared c.args.slots.now (c.slots.i + 1) r)
      (sym (ap (λ v. v.items) w.shared-is))
      (shared_more c.args.slots.now c.slots.shared.items w.push.new.self.items c.slots.i _ c.requires c.slots.invariant
      c.slots.auto.i c.slots-test.true w.in_ok-push.ensures.items
      (λ d. get_or_default c.args.slots.now c.slots.i _ d c.slots-test.true))
  | else-slots-i w ↦ subst (λ (r : List Slot). Shared c.args.slots.now (c.slots.i + 1) r)
      (sym (ap (λ v. v.items) w.shared-is))
      (shared_same c.args.slots.now c.slots.shared.items c.slots.i _ c.requires c.slots.invariant c.slots.auto.i
      c.slots-test.true w.if-slots-i.false)
]

pub returns-clause-one : goal.returns-clause-one
returns-clause-one c = own_hashes c.args.slots.now c.slots.shared.items c.slots.i c.slots-test.false c.slots.invariant
