use Rattle.std.proofs.Common.{◌≡◌, All}
use Rattle.snapshot_store.proofs.shared.new_slots.Given as goal

abbrev pub invariant-loop : goal.invariant-loop
invariant-loop l = All (λ tag. tag.book ≡ l.seen.book) l.slots.items
