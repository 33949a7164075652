use Rattle.life.proofs.Calls.{open_reaches}
use Rattle.life.proofs.law.open_reaches.Goals as goal

pub returns : goal.returns
returns c = open_reaches
