use Rattle.std.proofs.Common.{rules}
use Rattle.c_stores.proofs.stores.open.Goals as goal

pub returns-in-Ok : goal.returns-in-Ok
returns-in-Ok c = search rules
