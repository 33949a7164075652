use Rattle.entry_search.proofs.KeyOrder.{longer_some, longer_none}
use Rattle.entry_search.proofs.keys.cmp_longer.Goals as goal

pub returns-in-Some : goal.returns-in-Some
returns-in-Some c =
    longer_some c.args.context.now c.args.other_context.now c.args.id.now c.args.other_id.now c.split_at.result.0.now
    c.split_at.result.1.now c.in-Some.rest.now c.in-Some.byte.now c.cmp-order.result c.cmp.result
    c.cmp_in_context.result c.then.result c.then-in-Some.result c.requires c.split_at.ensures.front
    c.split_at.ensures.back c.in-Some.ensures.cases.0 c.cmp-order.ensures c.cmp.ensures c.cmp_in_context.ensures
    c.then.ensures c.then-in-Some.ensures

pub returns-in-None : goal.returns-in-None
returns-in-None c =
    longer_none c.args.context.now c.args.other_context.now c.args.id.now c.args.other_id.now c.split_at.result.0.now
    c.split_at.result.1.now c.cmp-order.result c.cmp-in-None.result c.then-in-None.result c.requires
    c.split_at.ensures.front c.split_at.ensures.back c.in-None.ensures.cases c.cmp-order.ensures
    c.cmp-in-None.ensures c.then-in-None.ensures
