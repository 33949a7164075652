use Rattle.std.proofs.Common.{arith}
use Rattle.std.proofs.lemmas.List.Sums.{prefix_len-le-length}
use Rattle.script_formats.specs.BoostDirectives.{is_size}
use Rattle.script_formats.proofs.boost.skip_size.Goals as goal

pub split_at-requires : goal.split_at-requires
split_at-requires c = omega (arith, c.size_len.ensures, prefix_len-le-length is_size c.args.text.now)
