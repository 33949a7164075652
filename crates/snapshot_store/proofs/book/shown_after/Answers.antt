use Rattle.std.proofs.Common.{ap, ◌≡◌, ◌/◌, length, arith, List}
use Rattle.snapshot_store.specs.SlotBook.{Event, shown_of}
use Rattle.snapshot_store.proofs.Events.{shown_prefix}
use Rattle.snapshot_store.proofs.book.shown_after.Goals as goal

pub returns-clause-later : goal.returns-clause-later
returns-clause-later c =
    let h = c.load-word.ensures in
    let log : c.again-beginning.result.log ≡ c.known.inside.shown.log = ap (λ s. s.log) c.again-beginning.ensures in
    let more = shown_prefix c.again-beginning.result.log c.load-word.new.seen.log h.5 in
    let found : c.load-word.result / 64 ≡ shown_of c.load-word.new.seen.log = h.6.1 in
    omega (
      arith,
      more,
      found,
      ap (λ (l : List Event). shown_of l) log,
      c.known.invariant.1,
      ap (λ v. length v.batches) c.known.view_is,
    )
