use Rattle.life.proofs.Running.{stop_keeps}
use Rattle.life.proofs.law.stop_keeps.Goals as goal

pub returns : goal.returns
returns c = stop_keeps
