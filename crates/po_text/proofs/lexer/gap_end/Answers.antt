use Rattle.std.proofs.Common.{refl, sym, ◌∙◌}
use Rattle.po_text.proofs.GapLemmas.{goes_line, goes_white, goes_comment}
use Rattle.po_text.proofs.lexer.gap_end.Goals as goal

pub gap-preserved-then-byte-eq10 : goal.gap-preserved-then-byte-eq10
gap-preserved-then-byte-eq10 c = goes_line _ c.gap.flags _ c.gap.line _ c.in-Some-split_byte.byte _ _ _ c.gap.invariant
    c.in-Some-split_byte.ensures c.if-byte-eq10.true refl

pub gap-preserved-then-is_white_byte : goal.gap-preserved-then-is_white_byte
gap-preserved-then-is_white_byte c =
    goes_white _ c.gap.flags _ c.gap.line c.in-Some-split_byte.byte _ _ _ c.gap.invariant c.in-Some-split_byte.ensures
    c.if-byte-eq10.false (sym c.is_white_byte.ensures ∙ c.if-is_white_byte.true)

pub gap-preserved : goal.gap-preserved
gap-preserved c =
    goes_comment _ c.gap.flags _ _ c.gap.line c.in-Some-split_byte.byte _ _ c.split_line.result.0.now _ _
    c.gap.invariant c.in-Some-split_byte.ensures c.if-byte-eq35.true c.split_line.ensures.line c.split_line.ensures.rest
    (c.comment_flags.ensures)
