use Rattle.std.proofs.Common.{sym, ◌∙◌, ap, ◌≡◌}
use Rattle.snapshot_store.proofs.Adding.{begins_moves}
use Rattle.snapshot_store.proofs.book.first_turn.Goals as goal

pub compare_exchange-found-requires : goal.compare_exchange-found-requires
compare_exchange-found-requires c =
    let h = c.args.head.now.book in
    let offer = c.plain-offer.ensures in
    let pen = c.no_pen-pen.ensures in
    let book : c.again-beginning.result.book ≡ c.args.head.now.word.book = ap (λ s. s.book) c.again-beginning.ensures
    ∙ (ap (λ v. v.book) c.seen.view_is ∙ sym c.requires) in (
      ap (λ w. w.tracked) h,
      book,
      pen.0 ∙ book,
      offer.0,
      rw (ap (λ w. w.key) h, pen.1, offer.3) (begins_moves c.again-beginning.result.log c.plain-offer.result.ask),
    )
