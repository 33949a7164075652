use Rattle.std.proofs.Common.{arith}
use Rattle.std.proofs.lemmas.List.Sums.{prefix_len-le-length}
use Rattle.script_formats.specs.BoostDirectives.{is_flag}
use Rattle.script_formats.proofs.boost.skip_flags.Goals as goal

pub split_at-requires : goal.split_at-requires
split_at-requires c = omega (arith, c.flags_len.ensures, prefix_len-le-length is_flag c.args.text.now)
