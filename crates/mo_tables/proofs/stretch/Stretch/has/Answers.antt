use Rattle.std.proofs.Common.{◌≡◌, ◌+◌, get_or, sym, ap, ◌∙◌, arith}
use Rattle.mo_tables.proofs.PartLemmas.{part_with_nul}
use Rattle.mo_tables.proofs.stretch.Stretch.has.Goals as goal

pub returns : goal.returns
returns c e =
    let span = c.args.span in
    let bytes = c.args.bytes.now in
    let boundary = rw c.start-start.ensures at (c.is_char_boundary.ensures.test.0 e) in
    let nul : get_or bytes (span.start + span.len) 0 ≡ 0 = ap (λ k. get_or bytes k 0) (sym c.end-end.ensures)
    ∙ c.if-bytes-end-ne0.false in (
      part_with_nul bytes c.args.self.now c.requires.stretch span.start (span.start + span.len)
          (omega (arith, c.if-start-self.false, c.start-start.ensures)) (omega arith)
          (omega (arith, c.if-self-end.false, c.end-end.ensures)) nul boundary,
      nul,
    )
