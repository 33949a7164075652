use Rattle.po_header.proofs.FaultLemmas.{IfOk-map}
use Rattle.dependent_po.proofs.FormatLemmas.{invalid_is, original_is}
use Rattle.dependent_po.proofs.formats.flagged_differ.Goals as goal

pub returns-in-Arguments : goal.returns-in-Arguments
returns-in-Arguments c = IfOk-map c.some_form_differs.result
    (λ b is. original_is c.args.entry.now c.in-Arguments.kinds.items _ _
    (rw c.in-Arguments.is at c.in_ok-kinds.ensures) c.format_original-rule.ensures.text
    c.format_original-rule.ensures.rule b (rw c.as_slice.ensures.value at is))
    c.some_form_differs.ensures

pub returns-in-Invalid : goal.returns-in-Invalid
returns-in-Invalid c = invalid_is c.args.entry.now _ (rw c.in-Invalid.is at c.in_ok-kinds.ensures)
    c.format_original-rule.ensures.text
