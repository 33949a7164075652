use Rattle.std.proofs.Common.{sym, ◌∙◌}
use Rattle.gfc_internal_format.proofs.GfcCallLemmas.{one_kind_more, no_kind_more}
use Rattle.gfc_internal_format.proofs.calls.kinds_in_order.Goals as goal

pub returns-in_default : goal.returns-in_default
returns-in_default c = no_kind_more c.args.asked.now c.asked._argument-index c.asked.number c.asked.kinds.items
    c.asked.invariant c.asked-test.true (sym (c.in_ok-found.ensures c.asked.number) ∙ sym c.in_default.ensures.value)

pub asked-preserved : goal.asked-preserved
asked-preserved c = rw c.in_ok-push.ensures.items
    (one_kind_more c.args.asked.now c.asked._argument-index c.asked.number c.asked.kinds.items c.asked.invariant
    c.in-Some.kind.now c.asked-test.true (sym (c.in_ok-found.ensures c.asked.number) ∙ sym c.in-Some.ensures.value))
