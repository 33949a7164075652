use Rattle.std.proofs.Common.{rules}
use Rattle.c_stores.proofs.stores.loaded.Goals as goal

pub returns-clause-ok : goal.returns-clause-ok
returns-clause-ok c = search rules
