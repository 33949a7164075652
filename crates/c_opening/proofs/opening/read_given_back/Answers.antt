use Rattle.c_opening.proofs.Keeping.{given_back_read, given_back_refused, none_counts}
use Rattle.c_opening.proofs.opening.read_given_back.Goals as goal

pub returns-clause-ok : goal.returns-clause-ok
returns-clause-ok c = given_back_read c.args.unread c.args.is_strict c.deref.result.now c.read_any_charset.result
    c.if-is_strict.false (none_counts c.is_memory.result c.if-is_memory.false c.is_memory.ensures) c.deref.ensures.value
    c.read_any_charset.ensures.ok

pub returns-clause-err : goal.returns-clause-err
returns-clause-err c = given_back_refused c.args.unread c.args.is_strict c.deref.result.now c.read_any_charset.result
    c.if-is_strict.false (none_counts c.is_memory.result c.if-is_memory.false c.is_memory.ensures) c.deref.ensures.value
    c.read_any_charset.ensures.err
