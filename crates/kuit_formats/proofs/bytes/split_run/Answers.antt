use Rattle.std.proofs.Common.{arith}
use Rattle.std.proofs.lemmas.List.Sums.{prefix_len-le-length}
use Rattle.kuit_formats.specs.KuitBytes.{is_in}
use Rattle.kuit_formats.proofs.bytes.split_run.Goals as goal

pub split_at-requires : goal.split_at-requires
split_at-requires c =
    omega (arith, c.run_len.ensures, prefix_len-le-length (is_in c.args.class) c.args.text.now)
