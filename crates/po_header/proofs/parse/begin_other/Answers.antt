use Rattle.std.proofs.Common.{◌∙◌, refl, inr}
use Rattle.po_header.specs.declared.parse.Frame.TheVariants.{Branch}
use Rattle.po_header.proofs.FrameLemmas.{wanting-push, colon-condition, colon-other}
use Rattle.po_header.proofs.parse.begin_other.Goals as goal

pub returns-in_ok-push-in-Condition-clause-ok : goal.returns-in_ok-push-in-Condition-clause-ok
returns-in_ok-push-in-Condition-clause-ok c =
    colon-condition c.args.waiting.now.items c.pop.new.self.items c.in-Condition.condition _
    (rw c.in-Condition.is at c.in-Some.ensures.items)
    ∙ wanting-push _ _ (Branch c.in-Condition.condition c.args.chosen) c.in_ok-push-in-Condition.ensures.items

pub returns-in_default-frame : goal.returns-in_default-frame
returns-in_default-frame c = record {
  ok = tt;
  err = inr (
    refl,
    colon-other c.args.waiting.now.items c.pop.new.self.items c.in-Some.frame _ c.in-Some.ensures.items
        c.in_default-frame.not-Condition,
  );
}
