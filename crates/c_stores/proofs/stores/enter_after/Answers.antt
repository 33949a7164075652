use Rattle.std.proofs.Common.{rules}
use Rattle.c_stores.proofs.stores.enter_after.Goals as goal

pub returns-in-Some : goal.returns-in-Some
returns-in-Some c = search rules
