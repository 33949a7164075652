use Rattle.std.proofs.Common.{arith}
use Rattle.std.proofs.lemmas.List.Sums.{prefix_len-le-length}
use Rattle.std.specs.Char.{is_ascii_digit}
use Rattle.c_signature.proofs.Runs.{run_is}
use Rattle.c_signature.proofs.parts.split_digits.Goals as goal

pub split_at-requires : goal.split_at-requires
split_at-requires c = omega (arith, c.digits_len.ensures, prefix_len-le-length is_ascii_digit c.args.text.now)

pub returns : goal.returns
returns c = run_is is_ascii_digit c.args.text.now _ _ c.digits_len.result c.digits_len.ensures c.split_at.ensures.front
    c.split_at.ensures.back
