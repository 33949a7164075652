use Rattle.life.proofs.Common.{rules, ◌∙◌, List, drop, length, Client}
use Rattle.snapshot_store.specs.Holding.{most_loads}
use Rattle.life.proofs.Fresh.{fresh_run, all_requests}
use Rattle.life.proofs.Running.{run_lives}
use Rattle.life.proofs.snapshots.run.run_snapshots.Goals as goal

pub returns-in-Ok-clause-requests : goal.returns-in-Ok-clause-requests
returns-in-Ok-clause-requests g c =
    let opened = c.in_ok-publisher in
    let before : List Client = opened.clients.items in
    let done : List Client = c.run_clients.new.clients in
    all_requests opened.publisher.seen c.run_clients.new.publisher.seen opened.clients.len before
    c.as_mut_slice.result.now done (drop (length done) before) c.as_mut_slice.ensures.value c.in-Ok.ensures.served
    (search rules) ∙ opened.ensures.requests

pub returns-in-Ok-clause-promise : goal.returns-in-Ok-clause-promise
returns-in-Ok-clause-promise g c =
    let opened = c.in_ok-publisher in
    let before : List Client = opened.clients.items in
    let done : List Client = c.run_clients.new.clients in
    let commands = c.args.commands.now in
    let outcomes = c.run_clients.new.outcomes.items in
    fresh_run most_loads opened.publisher c.run_clients.new.publisher opened.clients.len commands outcomes before
    c.as_mut_slice.result.now done (drop (length done) before) opened.ensures.empty opened.ensures.most
    opened.ensures.readers c.as_mut_slice.ensures.value
    (run_lives opened.publisher c.run_clients.new.publisher commands outcomes c.as_mut_slice.result.now done
    c.in-Ok.ensures.does c.in-Ok.ensures.served) c.in-Ok.ensures.served (search rules)
