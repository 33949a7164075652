use Rattle.std.proofs.Common.{◌∙◌}
use Rattle.po_header.proofs.StepLemmas.{AddsSteps-step}
use Rattle.po_header.proofs.steps.add.Goals as goal

pub returns : goal.returns
returns c = AddsSteps-step c.args.steps.now.items _ c.args.step _ (c.len-i.ensures ∙ c.args.steps.now.ok.0)
    c.in_ok-push.ensures.items
