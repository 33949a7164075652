use Rattle.c_opening.proofs.Keeping.{kept_po, none_counts, out_of_memory_po}
use Rattle.c_opening.proofs.opening.open_compiled.Goals as goal

pub returns-in-Ok-false : goal.returns-in-Ok-false
returns-in-Ok-false c = kept_po c.args.bytes.now c.args.options c.args.is_strict c.args.compiled
    c.kept_compiled.result c.requires (none_counts c.in-Ok-false.field-0 c.in-Ok-false.field-0-test
    c.in-Ok-false.ensures) c.kept_compiled.ensures

pub returns-in-Err : goal.returns-in-Err
returns-in-Err c = out_of_memory_po c.args.bytes.now c.args.options c.args.is_strict c.refused.result c.refused.ensures
