use Rattle.entry_search.proofs.Kit.{◌≡◌, true, length, sym, ◌∙◌, arith, bytes_eq, key}
use Rattle.entry_search.proofs.Found.{absent_by_slot, absent_without_slot, found_by_slot, one_digit}
use Rattle.entry_search.proofs.find.search_indexed.Goals as goal

pub returns-in_err-slot_of-clause-found : goal.returns-in_err-slot_of-clause-found
returns-in_err-slot_of-clause-found g c =
    c.from_residual.ensures ∙ sym (absent_without_slot c.args.image.now c.args.index.now c.args.asked.now
    c.hash-hash.result c.requires c.hash-hash.ensures c.in_err-slot_of.ensures.none)

pub returns-then-is_same-clause-found : goal.returns-then-is_same-clause-found
returns-then-is_same-clause-found g c =
    let entry = c.entry_in-entry in
    let at = c.requires.names.only c.in_ok-slot_of.field-0.now c.in_ok-slot_of.ensures.some in
    let same : bytes_eq (key entry.result) c.args.asked.now ≡ true = sym c.is_same.ensures.same ∙ c.if-is_same.true in
    sym (found_by_slot c.args.image.now at.0 entry.result c.args.asked.now entry.ensures.lawful
    (entry.ensures.entry at.0 at.1) same)

pub returns-then-is_same-clause-cost : goal.returns-then-is_same-clause-cost
returns-then-is_same-clause-cost g c =
    let m = c.args.image.now in
    let at = c.requires.names.only c.in_ok-slot_of.field-0.now c.in_ok-slot_of.ensures.some in
    one_digit (length m) c.args.steps.now c.is_same.new.count c.is_same.ensures.step (omega (arith, at.1.within))

pub returns-else-is_same-clause-found : goal.returns-else-is_same-clause-found
returns-else-is_same-clause-found g c =
    let slot = c.in_ok-slot_of.field-0.now in
    let entry = c.entry_in-entry in
    sym (absent_by_slot c.args.image.now c.args.index.now c.args.asked.now c.hash-hash.result slot entry.result
    c.requires c.hash-hash.ensures (c.is_shared.ensures c.if-is_shared.false) c.in_ok-slot_of.ensures.some
    c.in_ok-slot_of.ensures.hash entry.ensures.entry (sym c.is_same.ensures.same ∙ c.if-is_same.false))

pub returns-else-is_same-clause-cost : goal.returns-else-is_same-clause-cost
returns-else-is_same-clause-cost g c =
    let m = c.args.image.now in
    let at = c.requires.names.only c.in_ok-slot_of.field-0.now c.in_ok-slot_of.ensures.some in
    one_digit (length m) c.args.steps.now c.is_same.new.count c.is_same.ensures.step (omega (arith, at.1.within))
