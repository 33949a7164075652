use Rattle.std.proofs.Common.{arith}
use Rattle.std.proofs.lemmas.List.Sums.{prefix_len-le-length}
use Rattle.objc_format.specs.ObjcConversions.{is_size}
use Rattle.objc_format.proofs.conversions.split_sizes.Goals as goal

pub split_at-requires : goal.split_at-requires
split_at-requires c = omega (arith, c.sizes_len.ensures, prefix_len-le-length is_size c.args.text.now)
