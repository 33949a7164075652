use Rattle.std.proofs.Common.{◌∙◌, sym}
use Rattle.po_header.proofs.FrameLemmas.{joined-frame, joined-stays, joined-nothing}
use Rattle.po_header.proofs.parse.join_above.Goals as goal

pub frames-preserved : goal.frames-preserved
frames-preserved c =
    c.frames.invariant ∙ joined-frame c.args.level c.frames.waiting.items c.pop.new.self.items c.in-Some.frame _ _
    c.in-Some.ensures.items (sym c.if-not-joins.ensures) c.in_ok-operand.ensures

pub returns-then-not-joins : goal.returns-then-not-joins
returns-then-not-joins c =
    c.frames.invariant ∙ joined-stays c.args.level c.frames.waiting.items c.pop.new.self.items c.push.new.self.items
    c.in-Some.frame _ c.in-Some.ensures.items (sym c.if-not-joins.ensures) c.in_ok-push.ensures.items

pub returns : goal.returns
returns c =
    c.frames.invariant ∙ joined-nothing c.args.level c.frames.waiting.items c.pop.new.self.items _ _
    c.in_default.ensures.items c.in_default.ensures.rest c.in_default.ensures.cases.0
