use Rattle.catserve.proofs.Common.{rules}
use Rattle.catserve.proofs.player.Player.respond.Goals as goal

pub returns-in_ok-load-in-LoadsMo-clause-ok : goal.returns-in_ok-load-in-LoadsMo-clause-ok
returns-in_ok-load-in-LoadsMo-clause-ok g c = search rules

pub returns-in_ok-load-in-LoadsMo-clause-keeps : goal.returns-in_ok-load-in-LoadsMo-clause-keeps
returns-in_ok-load-in-LoadsMo-clause-keeps g c = search rules

pub returns-in-Goes-clause-ok : goal.returns-in-Goes-clause-ok
returns-in-Goes-clause-ok g c = search rules
