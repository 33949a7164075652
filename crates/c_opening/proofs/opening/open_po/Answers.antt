use Rattle.std.proofs.Common.{sym}
use Rattle.c_opening.proofs.opening.open_po.Goals as goal

pub returns-in-Ok : goal.returns-in-Ok
returns-in-Ok c = rw (sym c.options_of-options.ensures) c.open_compiled.ensures
