use Rattle.entry_search.proofs.Kit.{Some, key_bytes}
use Rattle.entry_search.proofs.KeyOrder.{reversed}
use Rattle.entry_search.proofs.keys.cmp_contexts.Goals as goal

pub returns-else-context-other_context : goal.returns-else-context-other_context
returns-else-context-other_context c =
    reversed (key_bytes (Some c.args.context.now) c.args.id.now)
    (key_bytes (Some c.args.other_context.now) c.args.other_id.now) _ _
    c.cmp_longer-else-context-other_context.ensures c.reverse.ensures
