use Rattle.std.proofs.Common.{sym, ◌∙◌, ap, ◌≡◌, ◌<◌, ◌+◌, ◌^◌, ◌++◌, ◌∷◌, [], length, arith, List, subst}
use Rattle.live_set.specs.Loads.{LoadValue}
use Rattle.live_versions.proofs.Adding.{adds_moves}
use Rattle.live_loads.proofs.Joining.{full_add, version-add}
use Rattle.live_loads.specs.Batches.{version_of, NoneEmpty}
use Rattle.live_versions.proofs.seen.add_batch.Goals as goal

pub compare_exchange-found-requires : goal.compare_exchange-found-requires
compare_exchange-found-requires c =
    let h = c.args.head.now.book in
    let offer = c.plain-offer.ensures in
    let pen = c.no_pen-pen.ensures in
    let log : c.again-beginning.result.log ≡ c.seen.inside.beginning.log = ap (λ s. s.log) c.again-beginning.ensures in
    let book : c.again-beginning.result.book ≡ c.args.head.now.word.book = ap (λ s. s.book) c.again-beginning.ensures
    ∙ (ap (λ v. v.book) c.seen.view_is ∙ sym c.requires.book) in
    let counted : version_of c.again-beginning.result.log ≡ c.seen.inside.version = ap version_of log
    ∙ sym c.seen.invariant.0 in
    let known : version_of c.seen.inside.beginning.log ≡ version_of c.args.seen.now.batches = ap
    (λ v. version_of v.batches) c.seen.view_is in
    let ask : c.plain-offer.result.ask ≡ c.args.bundle.now = offer.1 in
    let size : c.args.loads ≡ length c.plain-offer.result.ask = c.requires.loads.1
    ∙ ap (length {A = LoadValue}) (sym ask) in
    let some : 0 < length c.plain-offer.result.ask = omega (arith, c.requires.loads.0, size) in
    let room : c.seen.inside.version + length c.plain-offer.result.ask < 2 ^ 64 = omega
    (arith, c.requires.room, size, known, c.seen.invariant.0) in (
      ap (λ w. w.tracked) h,
      book,
      pen.0 ∙ book,
      offer.0,
      rw (ap (λ w. w.key) h, pen.1, offer.3, size) (adds_moves c.again-beginning.result.log c.plain-offer.result.ask
          c.plain-offer.result.ask c.seen.inside.version counted some room),
    )

pub invariant_of-result : goal.invariant_of-result
invariant_of-result c =
    let ask : c.plain-offer.result.ask ≡ c.args.bundle.now = c.plain-offer.ensures.1 in
    let grown : c.compare_exchange-found.new.seen.log ≡ c.seen.inside.beginning.log ++ c.args.bundle.now
    ∷ [] = c.compare_exchange-found.ensures.7 c.if-found-old.false
    ∙ (ap (λ s. s.log ++ c.plain-offer.result.ask ∷ []) c.again-beginning.ensures
    ∙ ap (λ (b : List LoadValue). c.seen.inside.beginning.log ++ b ∷ []) ask) in
    let more : version_of (c.seen.inside.beginning.log ++ c.args.bundle.now ∷ [])
    ≡ version_of c.seen.inside.beginning.log + length c.args.bundle.now = version-add c.seen.inside.beginning.log
    c.args.bundle.now in
    let some : 0 < length c.args.bundle.now = omega (arith, c.requires.loads.0, c.requires.loads.1) in (
      omega (arith, more, ap version_of grown, c.seen.invariant.0, c.requires.loads.1),
      subst NoneEmpty (sym grown)
          (full_add c.seen.inside.beginning.log c.args.bundle.now c.seen.invariant.1 some),
    )
