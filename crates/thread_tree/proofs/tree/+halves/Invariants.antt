use Rattle.std.proofs.Common.{◌+◌, ◌-◌, ◌*◌, length}
use Rattle.thread_tree.proofs.tree.+halves.Given as goal

abbrev pub decreases-work_both-mine : goal.decreases-work_both-mine
decreases-work_both-mine g l = 3 * length l.front.now + 1

abbrev pub decreases-work_both-theirs : goal.decreases-work_both-theirs
decreases-work_both-theirs g l = 3 * length l.back.now + 1

abbrev pub decreases-work_all : goal.decreases-work_all
decreases-work_all g l = 3 * length l.items.now

abbrev pub decreases-work_both : goal.decreases-work_both
decreases-work_both g l = 3 * (length l.front.now + length l.back.now) - 1
