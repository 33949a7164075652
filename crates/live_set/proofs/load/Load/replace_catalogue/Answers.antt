use Rattle.std.proofs.Common.{rules}
use Rattle.live_set.proofs.load.Load.replace_catalogue.Goals as goal

pub returns : goal.returns
returns c = search rules
