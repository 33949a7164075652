use Rattle.std.proofs.Common.{rules}
use Rattle.c_stores.proofs.stores.notice.Goals as goal

pub returns : goal.returns
returns c = search rules
