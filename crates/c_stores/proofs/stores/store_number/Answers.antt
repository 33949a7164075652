use Rattle.std.proofs.Common.{rules}
use Rattle.c_stores.proofs.stores.store_number.Goals as goal

pub returns-in-1 : goal.returns-in-1
returns-in-1 c = search rules
