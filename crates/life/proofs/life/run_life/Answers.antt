use Rattle.life.proofs.Common.{rules, ◌∙◌, List, drop, length, Client}
use Rattle.life.proofs.Fresh.{fresh_run, all_requests}
use Rattle.life.proofs.life.run_life.Goals as goal

pub returns-in-Ok-clause-requests : goal.returns-in-Ok-clause-requests
returns-in-Ok-clause-requests g c =
    let opened = c.in_ok-publisher in
    let before : List Client = opened.clients.items in
    let done : List Client = c.run_on-run.new.clients in
    all_requests opened.publisher.seen c.run_on-run.new.publisher.seen opened.clients.len before
    c.as_mut_slice.result.now done (drop (length done) before) c.as_mut_slice.ensures.value c.in-Ok.ensures.served
    (search rules) ∙ opened.ensures.requests

pub returns-in-Ok-clause-promise : goal.returns-in-Ok-clause-promise
returns-in-Ok-clause-promise g c =
    let opened = c.in_ok-publisher in
    let before : List Client = opened.clients.items in
    let done : List Client = c.run_on-run.new.clients in
    fresh_run c.args.most opened.publisher c.run_on-run.new.publisher opened.clients.len c.args.commands.now
    c.in-Ok.outcomes.items before c.as_mut_slice.result.now done (drop (length done) before) opened.ensures.empty
    opened.ensures.most opened.ensures.readers c.as_mut_slice.ensures.value c.in-Ok.ensures.life c.in-Ok.ensures.served
    (search rules)
