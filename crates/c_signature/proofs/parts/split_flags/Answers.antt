use Rattle.std.proofs.Common.{arith}
use Rattle.std.proofs.lemmas.List.Sums.{prefix_len-le-length}
use Rattle.c_signature.specs.Pieces.{is_flag}
use Rattle.c_signature.proofs.Runs.{run_is}
use Rattle.c_signature.proofs.PartLemmas.{longest_flags}
use Rattle.c_signature.proofs.parts.split_flags.Goals as goal

pub split_at-requires : goal.split_at-requires
split_at-requires c = omega (arith, c.flags_len.ensures, prefix_len-le-length is_flag c.args.text.now)

pub returns : goal.returns
returns c = longest_flags _ _ _ (run_is is_flag c.args.text.now _ _ c.flags_len.result
    c.flags_len.ensures c.split_at.ensures.front c.split_at.ensures.back)
