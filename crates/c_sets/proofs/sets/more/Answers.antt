use Rattle.std.proofs.Common.{rules}
use Rattle.c_sets.proofs.sets.more.Goals as goal

pub returns : goal.returns
returns c = search rules
