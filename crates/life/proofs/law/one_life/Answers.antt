use Rattle.life.proofs.OneLife.{one_life}
use Rattle.life.proofs.law.one_life.Goals as goal

pub returns : goal.returns
returns c = one_life
