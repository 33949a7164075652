use Rattle.std.proofs.Common.{arith}
use Rattle.std.proofs.lemmas.List.Sums.{prefix_len-le-length}
use Rattle.format_arguments.specs.Text.{is_plain}
use Rattle.ruby_format.proofs.parts.read_name.Goals as goal

pub split_at-requires : goal.split_at-requires
split_at-requires c =
    omega (arith, c.name_len.ensures, prefix_len-le-length (is_plain c.args.close) c.args.text.now)
