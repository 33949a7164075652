use Rattle.std.proofs.lemmas.Result.{IfOk-weaker}
use Rattle.kuit_formats.specs.KuitReading.{waiting_names}
use Rattle.kuit_formats.proofs.ContentLemmas.{item_is, start_is, end_is, other_end, no_token}
use Rattle.kuit_formats.proofs.content.read_next.Goals as goal

pub returns-in-Some-Item-clause-next : goal.returns-in-Some-Item-clause-next
returns-in-Some-Item-clause-next c = item_is (waiting_names c.args.opened.now.items) c.args.text.now
    c.in-Some-Item.rest.now (rw c.in-Some-Item.field-0-is at c.in-Some-Item.ensures.token)

pub returns-in-Some-Start-clause-next : goal.returns-in-Some-Start-clause-next
returns-in-Some-Start-clause-next c =
    let token = rw c.in-Some-Start.field-0-is at c.in-Some-Start.ensures.token in
    IfOk-weaker c.open_element.result _ _ (λ found opens. start_is (waiting_names c.args.opened.now.items) _
    c.args.text.now
    c.in-Some-Start.name.now c.in-Some-Start.rest.now found token opens) c.open_element.ensures.opens

pub returns-then-close-clause-next : goal.returns-then-close-clause-next
returns-then-close-clause-next c = end_is (waiting_names c.args.opened.now.items)
    (waiting_names c.close.new.opened.items)
    c.args.text.now c.in-Some-End.name.now c.in-Some-End.rest.now
    (rw c.in-Some-End.field-0-is at c.in-Some-End.ensures.token) (c.close.ensures.yes c.if-close.true)

pub returns-else-close-clause-next : goal.returns-else-close-clause-next
returns-else-close-clause-next c = other_end (waiting_names c.args.opened.now.items) c.args.text.now
    c.in-Some-End.name.now c.in-Some-End.rest.now
    (rw c.in-Some-End.field-0-is at c.in-Some-End.ensures.token) (c.close.ensures.no c.if-close.false)

pub returns-in-None-clause-next : goal.returns-in-None-clause-next
returns-in-None-clause-next c = no_token (waiting_names c.args.opened.now.items) c.args.text.now c.requires
    c.in-None.ensures.token
