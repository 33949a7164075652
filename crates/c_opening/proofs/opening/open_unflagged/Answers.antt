use Rattle.c_opening.proofs.Keeping.{kept_owned, memory_owned, none_counts}
use Rattle.c_opening.proofs.opening.open_unflagged.Goals as goal

pub returns-in-Ok-false : goal.returns-in-Ok-false
returns-in-Ok-false c text options means = kept_owned text options c.args.is_strict c.args.compiled
    c.kept_compiled.result (none_counts c.in-Ok-false.field-0 c.in-Ok-false.field-0-test c.in-Ok-false.ensures)
    c.kept_compiled.ensures means

pub returns-in-Err : goal.returns-in-Err
returns-in-Err c text options means =
    memory_owned text options c.args.is_strict c.refused-in-Err.result c.refused-in-Err.ensures
