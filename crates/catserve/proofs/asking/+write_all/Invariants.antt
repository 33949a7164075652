use Rattle.catserve.proofs.Common.{length}
use Rattle.catserve.proofs.asking.+write_all.Given as goal

abbrev pub decreases-write_all : goal.decreases-write_all
decreases-write_all l = length l.desks.now
