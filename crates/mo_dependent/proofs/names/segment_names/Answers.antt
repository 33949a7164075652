use Rattle.mo_dependent.proofs.Steps.{message_numbered, split_at}
use Rattle.mo_dependent.proofs.names.segment_names.Goals as goal

pub add_names-requires : goal.add_names-requires
add_names-requires c =
    (split_at c.args.dependents.now c.messages.i c.message_at-message.result.now c.requires
    c.message_at-message.ensures).0

pub add_names-requires-in-messages : goal.add_names-requires-in-messages
add_names-requires-in-messages c =
    (split_at c.args.dependents.now c.messages.i c.message_at-message.result.now c.requires
    c.message_at-message.ensures).1

pub messages-preserved : goal.messages-preserved
messages-preserved c =
    message_numbered c.args.dependents.now c.messages.i c.message_at-message.result.now _ _ _ _
    c.message_at-message.ensures c.messages.invariant c.in_ok-add_names.ensures c.in_ok-add_names-2.ensures
