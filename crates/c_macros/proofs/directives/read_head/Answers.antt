use Rattle.std.proofs.Common.{refl}
use Rattle.c_macros.proofs.directives.read_head.Goals as goal

pub returns : goal.returns
returns c = (
  record {
    behind_percent = c.args.text.now;
    behind_number = c.read_number-number.result.1.now;
    behind_flags = c.split_flags.result.1.now;
    behind_width = c.read_width-width.result.1.now;
    begins = refl;
    number_at = c.read_number-number.ensures;
    flags_at = c.split_flags.ensures;
    width_at = c.read_width-width.ensures;
    precision_at = c.read_precision-precision.ensures;
  },
  refl,
)
