use Rattle.catserve.proofs.Common.{◌≡◌, rules, flat_map, command_list, rounds_of}
use Rattle.catserve.proofs.Questions.{ends_playing}
use Rattle.catserve.proofs.run.output_of.Goals as goal

pub returns-in_err-workers-clause-fault : goal.returns-in_err-workers-clause-fault
returns-in_err-workers-clause-fault g c = search rules

pub returns-in-Err-clause-fault : goal.returns-in-Err-clause-fault
returns-in-Err-clause-fault g c =
    let value = c.in_ok-workers.field-0 in
    let commands = flat_map command_list c.workers.inside.said.items in
    let same : value.rounds ≡ rounds_of commands = search rules in
    rw (c.from.ensures, c.kind_in_memory.ensures) (ends_playing value commands c.in-Err.kind
    c.in_ok-workers.ensures.ok same c.in-Err.ensures.fault)
