use Rattle.std.proofs.Common.{◌∙◌, sym}
use Rattle.po_header.proofs.FrameLemmas.{negated-frame, negated-stays, negated-nothing}
use Rattle.po_header.proofs.parse.negate.Goals as goal

pub frames-preserved : goal.frames-preserved
frames-preserved c =
    c.frames.invariant ∙ negated-frame c.frames.waiting.items c.pop.new.self.items c.frames.waiting.len
    c.in-Some.frame.now _ _ (rw c.deref.ensures.value at c.in-Some.ensures.value) c.frames.waiting.ok.0
    c.pop.ensures.rest (sym c.if-not-is_bang.ensures) c.in_ok-operand.ensures

pub returns-then-not-is_bang : goal.returns-then-not-is_bang
returns-then-not-is_bang c =
    c.frames.invariant ∙ negated-stays c.frames.waiting.items c.in-Some.frame.now _
    (rw c.deref.ensures.value at c.in-Some.ensures.value) (sym c.if-not-is_bang.ensures)

pub returns : goal.returns
returns c =
    c.frames.invariant ∙ negated-nothing c.frames.waiting.items _
    (rw c.deref.ensures.value at c.in_default.ensures.value)
