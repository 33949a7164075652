use Rattle.std.proofs.Common.{sym, ◌∙◌, ap, ◌≡◌, ◌<◌, ◌+◌, ◌^◌, length, arith, List}
use Rattle.snapshot_store.specs.SlotBook.{Event, batches_of}
use Rattle.snapshot_store.proofs.Adding.{adds_moves}
use Rattle.snapshot_store.proofs.book.add_batch.Goals as goal

pub compare_exchange-found-requires : goal.compare_exchange-found-requires
compare_exchange-found-requires c =
    let h = c.args.head.now.book in
    let offer = c.plain-offer.ensures in
    let pen = c.no_pen-pen.ensures in
    let log : c.again-beginning.result.log ≡ c.seen.inside.beginning.log = ap (λ s. s.log) c.again-beginning.ensures in
    let book : c.again-beginning.result.book ≡ c.args.head.now.word.book = ap (λ s. s.book) c.again-beginning.ensures
    ∙ (ap (λ v. v.book) c.seen.view_is ∙ sym c.requires.book) in
    let counted : length (batches_of c.again-beginning.result.log) ≡ c.seen.inside.batch_count = ap
    (λ (l : List Event). length (batches_of l)) log ∙ sym c.seen.invariant in
    let known : length (batches_of c.seen.inside.beginning.log) ≡ length c.args.seen.now.batches = ap
    (λ v. length v.batches) c.seen.view_is in
    let room : c.seen.inside.batch_count + 1 < 2 ^ 58 = omega
    (arith, c.requires.room, known, c.seen.invariant) in (
      ap (λ w. w.tracked) h,
      book,
      pen.0 ∙ book,
      offer.0,
      rw (ap (λ w. w.key) h, pen.1, offer.3) (adds_moves c.again-beginning.result.log c.plain-offer.result.ask.1
          c.plain-offer.result.ask c.seen.inside.batch_count counted room),
    )
