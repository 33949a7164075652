use Rattle.std.proofs.Common.{rules}
use Rattle.live_loads.proofs.load.compiled.Goals as goal

pub returns-in_default : goal.returns-in_default
returns-in_default c = search rules
