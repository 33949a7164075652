use Rattle.std.proofs.Common.{suc, sym}
use Rattle.php_format.proofs.PhpPartLemmas.{flag_shorter, flags_more}
use Rattle.php_format.proofs.parts.skip_flags.Goals as goal

pub flags-smaller : goal.flags-smaller
flags-smaller c = flag_shorter c.flags.rest.now c.in-Some.after.now c.in-Some.ensures

pub flags-preserved : goal.flags-preserved
flags-preserved c = (
  suc c.flags.invariant.0,
  flags_more c.flags.invariant.0 c.args.text.now c.flags.rest.now c.in-Some.after.now
      c.flags.invariant.1 (sym c.in-Some.ensures),
)
