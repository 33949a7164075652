use Rattle.life.proofs.Common.{length}
use Rattle.life.proofs.life.+seat_all.Given as goal

abbrev pub decreases-seat_all : goal.decreases-seat_all
decreases-seat_all l = length l.lists.now.items
