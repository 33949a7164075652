use Rattle.std.proofs.Common.{ap, subst, ◌≤◌, ◌+◌, length, arith, List}
use mathlib.Core.List.{IsPrefix}
use Rattle.snapshot_store.specs.SlotBook.{Event, batches_of, shown_of}
use Rattle.snapshot_store.proofs.Ordering.{ordered}
use Rattle.snapshot_store.proofs.Events.{batches_prefix, shown_prefix, prefix_trans}
use Rattle.snapshot_store.proofs.book.wait.Goals as goal

pub returns-clause-begins : goal.returns-clause-begins
returns-clause-begins c =
    let a = c.version.inside.beginning.log in
    let k = c.known.inside.version.log in
    let s = c.known.inside.shown.log in
    let x = c.learn.new.self.log in
    let y = c.learn-2.new.self.log in
    let z = c.compare_exchange.new.seen.log in
    let first = c.learn.ensures in
    let second = c.learn-2.ensures in
    let step = c.compare_exchange.ensures in
    let old : IsPrefix a x = subst (λ (l : List Event). IsPrefix l x) (ap (λ b. b.log) c.again-both.ensures) first.2 in
    let further : IsPrefix x z = prefix_trans x y z second.2 step.6 in
    let more : shown_of s ≤ shown_of y = shown_prefix s y second.3 in
    let still : shown_of y ≤ shown_of z = shown_prefix y z step.6 in
    let bound : shown_of z + 2 ≤ c.turn.inside.pen.nib.key = step.7.1 c.turn.invariant.0 in
    let len : length (batches_of k) ≤ length (batches_of a) = omega (
      arith,
      more,
      still,
      bound,
      c.known.invariant.1,
      c.requires.all,
      ap (λ t. t.shown) c.turn.view_is,
      ap (λ v. length v.batches) c.version.view_is,
    ) in
    let b = ordered (batches_of k) (batches_of a) (batches_of z)
    (batches_prefix k z (prefix_trans k x z first.3 further)) (batches_prefix a z (prefix_trans a x z old further)) len
    in
    rw (← c.version.view_is, ← c.known.view_is) b
