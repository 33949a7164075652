use Rattle.std.proofs.Common.{◌≤◌, ap, subst, arith, length, List}
use mathlib.Core.List.{IsPrefix}
use Rattle.snapshot_store.specs.SlotBook.{Event, batches_of}
use Rattle.snapshot_store.proofs.Ordering.{ordered}
use Rattle.snapshot_store.proofs.Events.{batches_prefix}
use Rattle.snapshot_store.proofs.book.tie.Goals as goal

pub returns : goal.returns
returns c =
    let h = c.learn.ensures in
    let a = c.version.inside.beginning.log in
    let k = c.known.inside.version.log in
    let z = c.learn.new.self.log in
    let first : IsPrefix a z = subst (λ (s : List Event). IsPrefix s z)
    (ap (λ s. s.log) c.again-both.ensures) h.2 in
    let len : length (batches_of k) ≤ length (batches_of a) = omega (
      arith,
      c.requires.longer,
      ap (λ v. length v.batches) c.known.view_is,
      ap (λ v. length v.batches) c.version.view_is,
    ) in
    let s = ordered (batches_of k) (batches_of a) (batches_of z) (batches_prefix k z h.3)
    (batches_prefix a z first) len in
    rw (← c.version.view_is, ← c.known.view_is) s
