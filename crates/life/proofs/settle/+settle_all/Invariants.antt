use Rattle.life.proofs.Common.{length}
use Rattle.life.proofs.settle.+settle_all.Given as goal

abbrev pub decreases-settle_all : goal.decreases-settle_all
decreases-settle_all l = length l.clients.now
