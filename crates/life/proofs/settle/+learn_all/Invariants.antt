use Rattle.life.proofs.Common.{length}
use Rattle.life.proofs.settle.+learn_all.Given as goal

abbrev pub decreases-learn_all : goal.decreases-learn_all
decreases-learn_all l = length l.clients.now
