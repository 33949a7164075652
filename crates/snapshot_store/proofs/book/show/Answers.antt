use Rattle.std.proofs.Common.{sym, ◌∙◌, ap, ◌≡◌, suc, ◌+◌, length, arith, List}
use Rattle.logbook.specs.Pages.{nib, may_write}
use Rattle.snapshot_store.specs.SlotBook.{Event, batches_of}
use Rattle.snapshot_store.proofs.Adding.{shows_moves}
use Rattle.snapshot_store.proofs.book.show.Goals as goal

pub compare_exchange-found-requires : goal.compare_exchange-found-requires
compare_exchange-found-requires c =
    let h = c.args.shown.now.book in
    let offer = c.plain-offer.ensures in
    let pen = c.turn.inside.pen in
    let log : c.again-beginning.result.log ≡ c.version.inside.beginning.log
    = ap (λ s. s.log) c.again-beginning.ensures in
    let book : c.again-beginning.result.book ≡ c.args.shown.now.word.book = ap (λ s. s.book) c.again-beginning.ensures
    ∙ (ap (λ v. v.book) c.version.view_is ∙ sym c.requires.book) in
    let counted : length (batches_of c.again-beginning.result.log) ≡ c.version.inside.batch_count = ap
    (λ (l : List Event). length (batches_of l)) log ∙ sym c.version.invariant in
    let known : length (batches_of c.version.inside.beginning.log) ≡ length c.args.version.now.batches = ap
    (λ v. length v.batches) c.version.view_is in
    let key : pen.nib.key ≡ suc (suc c.args.turn.shown) = omega
    (arith, ap (λ t. t.shown) c.turn.view_is, c.turn.invariant.1) in
    let mine : pen.nib ≡ nib may_write (suc (suc c.args.turn.shown)) pen.nib.value = λ i. record {
      right = c.turn.invariant.0 i;
      key = key i;
      value = pen.nib.value;
    } in
    let one : c.version.inside.batch_count ≡ c.args.turn.shown + 1 = omega
    (arith, c.requires.next, c.requires.turn.1, known, c.version.invariant) in
    let ask : c.plain-offer.result.ask.0 ≡ c.version.inside.batch_count = ap (λ (e : Event). e.0) offer.1 in (
      ap (λ w. w.tracked) h,
      book,
      ap (λ t. t.book) c.turn.view_is ∙ (c.requires.turn.0 ∙ sym c.requires.book),
      offer.0,
      rw (ap (λ w. w.key) h, mine, offer.3, ask) (shows_moves c.again-beginning.result.log c.version.inside.batch_count
          c.args.turn.shown c.args.old c.args.at pen.nib.value c.plain-offer.result.ask counted one c.requires.turn.1
          c.requires.slot),
    )
