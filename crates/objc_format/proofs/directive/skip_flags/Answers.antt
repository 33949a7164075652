use Rattle.std.proofs.Common.{arith}
use Rattle.std.proofs.lemmas.List.Sums.{prefix_len-le-length}
use Rattle.objc_format.specs.ObjcDirectives.{is_flag}
use Rattle.objc_format.proofs.directive.skip_flags.Goals as goal

pub split_at-requires : goal.split_at-requires
split_at-requires c = omega (arith, c.flags_len.ensures, prefix_len-le-length is_flag c.args.text.now)
