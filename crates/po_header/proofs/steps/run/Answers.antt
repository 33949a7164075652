use Rattle.po_header.proofs.Kit.{◌∙◌, sym, ap, arith, take, length-take}
use Rattle.po_header.specs.declared.steps.Step.{Step}
use Rattle.po_header.specs.ChoiceSteps.{step_value, step_values}
use Rattle.po_header.proofs.StepLemmas.{reached-step, reached-earlier, reached-none, reached-past}
use Rattle.po_header.proofs.steps.run.Goals as goal

pub returns-in_err-value : goal.returns-in_err-value
returns-in_err-value c = c.from_residual.ensures ∙ reached-past c.args.steps.now c.steps.at c.args.n
    c.in_err-value.ensures.lookup.0 ∙ sym c.steps.invariant

pub returns-in-Value : goal.returns-in-Value
returns-in-Value c =
    let h = c.in_ok-value.ensures.lookup in
    sym (c.steps.invariant ∙ reached-step c.args.steps.now c.steps.at c.args.n c.in_ok-value.field-0.now h.3.0 (sym h.1)
    ∙ ap (λ (s : Step). step_value (step_values c.args.n (take c.steps.at c.args.steps.now)) c.args.n s) c.in-Value.is)

pub returns-then-next-at : goal.returns-then-next-at
returns-then-next-at c =
    let h = c.in_ok-value.ensures.lookup in
    sym (c.steps.invariant ∙ reached-step c.args.steps.now c.steps.at c.args.n c.in_ok-value.field-0.now h.3.0 (sym h.1)
    ∙ ap (λ (s : Step). step_value (step_values c.args.n (take c.steps.at c.args.steps.now)) c.args.n s) c.in-Test.is
    ∙ c.next_step-next.ensures (step_values c.args.n (take c.steps.at c.args.steps.now))
    ∙ reached-none (take c.steps.at c.args.steps.now) c.next_step-next.result c.args.n
    (omega (arith, length-take c.steps.at c.args.steps.now, c.if-next-at.true)))

pub steps-preserved : goal.steps-preserved
steps-preserved c =
    let h = c.in_ok-value.ensures.lookup in
    c.steps.invariant ∙ reached-step c.args.steps.now c.steps.at c.args.n c.in_ok-value.field-0.now h.3.0 (sym h.1)
    ∙ ap (λ (s : Step). step_value (step_values c.args.n (take c.steps.at c.args.steps.now)) c.args.n s) c.in-Test.is
    ∙ c.next_step-next.ensures (step_values c.args.n (take c.steps.at c.args.steps.now))
    ∙ reached-earlier c.args.steps.now c.steps.at c.next_step-next.result c.args.n h.3.0 c.if-next-at.false
