use Rattle.entry_search.proofs.Kit.{ℕ, List, ◌≡◌, length, subst, sym, arith, Slot}
use Rattle.entry_search.proofs.Indexing.{Listed, listed_more, listed_none, named}
use Rattle.entry_search.proofs.index_slots.list_slots.Goals as goal

pub entries-init : goal.entries-init
entries-init c = subst (λ (slots : List Slot). Listed c.args.image.now slots 0) (sym c.in_ok-slots.ensures.items)
    (listed_none c.args.image.now)

pub entries-preserved : goal.entries-preserved
entries-preserved c = listed_more c.args.image.now c.entries.slots.items c.push_slots.new.slots.items c.entries.i
    c.entries.invariant c.in_ok-push_slots.ensures

pub returns-clause-names : goal.returns-clause-names
returns-clause-names c =
    let m = c.args.image.now in
    let all : c.entries.i ≡ length m = omega (
      arith,
      c.entries-test.false,
      c.entries.auto.i-end,
      c.len-count.ensures.len,
    ) in
    named m c.entries.slots.items (subst (λ (n : ℕ). Listed m c.entries.slots.items n) all c.entries.invariant)
