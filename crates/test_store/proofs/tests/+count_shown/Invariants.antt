use Rattle.std.proofs.Common.{length}
use Rattle.test_store.proofs.tests.+count_shown.Given as goal

abbrev pub decreases-count_shown : goal.decreases-count_shown
decreases-count_shown l = length l.readers.now
