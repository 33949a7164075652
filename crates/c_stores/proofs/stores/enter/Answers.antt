use Rattle.std.proofs.Common.{rules}
use Rattle.c_stores.proofs.stores.enter.Goals as goal

pub returns-in-Lent : goal.returns-in-Lent
returns-in-Lent c = search rules
