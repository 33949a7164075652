use Rattle.entry_search.proofs.KeyOrder.{mixed}
use Rattle.entry_search.proofs.keys.cmp_keys.Goals as goal

pub returns-in-Some-None : goal.returns-in-Some-None
returns-in-Some-None c =
    rw (c.in-Some-None.is-0, c.in-Some-None.is-1)
    (mixed c.in-Some-None.context.now c.args.id.now c.args.other_id.now _ _ _ _ _ c.as_bytes-in-Some-None.ensures.value
    c.as_bytes-id.ensures.value c.as_bytes-other.ensures.value c.cmp_in_context-in-Some-None.ensures
    c.reverse.ensures)
