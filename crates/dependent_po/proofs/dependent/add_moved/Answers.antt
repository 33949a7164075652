use Rattle.std.proofs.Common.{arith}
use Rattle.dependent_po.proofs.SplitLemmas.{moved_fits, moved_step}
use Rattle.dependent_po.proofs.dependent.add_moved.Goals as goal

pub overflow_add-by : goal.overflow_add-by
overflow_add-by c = omega (
  arith,
  moved_fits c.args.by c.requires.0 c.splits.split-index c.args.own.now (record { start = 0; len = 0 }) c.requires.1
      c.requires.2 c.splits-test.true,
)

pub splits-preserved : goal.splits-preserved
splits-preserved c = moved_step c.args.by c.splits.split-index c.args.own.now _ _ _ _ c.splits-test.true
    c.splits.invariant c.in_ok-push.ensures.items
