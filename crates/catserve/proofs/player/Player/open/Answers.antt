use Rattle.catserve.proofs.Common.{arith}
use Rattle.std.proofs.lemmas.Grind.{common_steps}
use Rattle.catserve.proofs.player.Player.open.Goals as goal

pub returns-in-Ok-open_desks-clause-ok : goal.returns-in-Ok-open_desks-clause-ok
returns-in-Ok-open_desks-clause-ok g c = grind (arith, common_steps)
