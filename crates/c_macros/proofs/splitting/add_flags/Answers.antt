use Rattle.std.proofs.Common.{arith}
use Rattle.c_macros.proofs.SplitLemmas.{flags_on}
use Rattle.c_macros.proofs.splitting.add_flags.Goals as goal

pub overflow_add-at : goal.overflow_add-at
overflow_add-at c = omega (arith, c.flags.invariant.place, c.flags-test.true, c.requires)

pub flags-preserved : goal.flags-preserved
flags-preserved c = record {
  place = omega (arith, c.flags.invariant.place);
  items = flags_on c.args.flags.now c.flags.flag-index _ c.args.start c.flags.at c.args.parts.now.items
      c.flags.parts.items _ c.flags-test.true c.flags.invariant.items c.flags.invariant.place
      c.in_ok-add_flag.ensures;
}
