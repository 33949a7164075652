use Rattle.std.proofs.Common.{arith}
use Rattle.std.proofs.lemmas.List.Sums.{prefix_len-le-length}
use Rattle.gcc_internal_format.specs.GccDirectives.{is_flag}
use Rattle.gcc_internal_format.proofs.directive.split_flags.Goals as goal

pub split_at-requires : goal.split_at-requires
split_at-requires c = omega (arith, c.flags_len.ensures, prefix_len-le-length is_flag c.args.text.now)
