use Rattle.std.proofs.Common.{sym}
use Rattle.c_opening.proofs.opening.open_owned_po.Goals as goal

pub returns-in-Ok : goal.returns-in-Ok
returns-in-Ok c = rw (sym c.options_of-options.ensures)
    (c.open_unflagged.ensures c.args.text.items c.options_of-options.result c.in-Ok.ensures.ok)

pub returns-in-Err : goal.returns-in-Err
returns-in-Err c = rw (sym c.options_of-options.ensures)
    (c.refused_owned.ensures c.args.text.items c.options_of-options.result c.in-Err.ensures.err)
