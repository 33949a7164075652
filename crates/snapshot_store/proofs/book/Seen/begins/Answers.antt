use Rattle.std.proofs.Common.{ap, subst, List}
use mathlib.Core.List.{IsPrefix}
use Rattle.snapshot_store.specs.SlotBook.{Event, batches_of}
use Rattle.snapshot_store.proofs.Ordering.{compared}
use Rattle.snapshot_store.proofs.Events.{batches_prefix}
use Rattle.snapshot_store.proofs.book.Seen.begins.Goals as goal

pub returns : goal.returns
returns c =
    let h = c.learn.ensures in
    let a = c.self.inside.beginning.log in
    let b = c.other.inside.beginning.log in
    let z = c.learn.new.self.log in
    let first : IsPrefix a z = subst (λ (s : List Event). IsPrefix s z)
    (ap (λ s. s.log) c.again-both.ensures) h.2 in
    let k = compared (batches_of a) (batches_of b) (batches_of z) c.self.inside.batch_count c.other.inside.batch_count
    (batches_prefix a z first) (batches_prefix b z h.3) c.self.invariant c.other.invariant in
    rw (← c.self.view_is, ← c.other.view_is) k
