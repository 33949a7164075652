use Rattle.catserve.proofs.Common.{get_or, refl, arith}
use Rattle.catserve.proofs.Asked.{gives_at, gives_none}
use Rattle.catserve.proofs.asking.give.Goals as goal

pub returns-in_ok-push : goal.returns-in_ok-push
returns-in_ok-push c =
    let desks = c.args.desks.now in
    let desk = c.index-desks-index.result in
    gives_at desks c.args.worker c.args.query desk
    (record (get_or desks c.args.worker desk) { queries = c.push.new.self }) (omega arith) c.in_ok-push.ensures.items
    refl

pub returns-else-index-desks : goal.returns-else-index-desks
returns-else-index-desks c = gives_none c.args.desks.now c.args.worker c.args.query (omega arith)
