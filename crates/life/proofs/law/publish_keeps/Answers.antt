use Rattle.life.proofs.Calls.{publish_keeps}
use Rattle.life.proofs.law.publish_keeps.Goals as goal

pub returns : goal.returns
returns c = publish_keeps
