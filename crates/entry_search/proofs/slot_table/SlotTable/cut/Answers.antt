use Rattle.entry_search.proofs.Kit.{List, ltb-true, sym, ◌∙◌, subst, rules, Slot, Climbs, IsCut}
use Rattle.std.proofs.Common.{ltb, ltb-false}
use Rattle.std.proofs.lemmas.List.Sorted.{IsPartitionPoint-from_clause, IsPartitionedBy-ltb}
use Rattle.entry_search.proofs.slot_table.SlotTable.cut.Goals as goal

pub returns-in-None : goal.returns-in-None
returns-in-None c =
    let slots : List Slot = c.deref.result.now in
    let climbs : Climbs slots = subst (λ (r : List Slot). Climbs r) (sym c.deref.ensures.value) c.self.invariant in
    let parted = IsPartitionedBy-ltb (λ (slot : Slot). slot.hash) slots c.args.bound climbs in
    let point = IsPartitionPoint-from_clause (λ (slot : Slot). ltb slot.hash c.args.bound) slots
    c.partition_point.result c.partition_point.ensures.partitioned parted (λ a r q k. search rules) in
    let cut : IsCut slots c.args.bound c.partition_point.result =
    ((λ k d low h. ltb-true _ _ (point.0 k d low h)), (λ k d low h. ltb-false _ _ (point.1 k d low h))) in
    subst (λ (r : List Slot). IsCut r c.args.bound c.partition_point.result) (c.deref.ensures.value ∙ c.self.view_is)
    cut
