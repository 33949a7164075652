use Rattle.c_opening.proofs.Keeping.{none_counts, refused_owned_po}
use Rattle.c_opening.proofs.opening.refused_owned.Goals as goal

pub returns : goal.returns
returns c text options why = refused_owned_po text options c.args.is_strict c.args.fault c.fault_number.result
    c.refused-2.result (none_counts c.is_wanted_again.result c.if-is_wanted_again.false c.is_wanted_again.ensures)
    c.fault_number.ensures c.refused-2.ensures why
