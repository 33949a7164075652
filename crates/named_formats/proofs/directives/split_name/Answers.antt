use Rattle.std.proofs.Common.{arith}
use Rattle.std.proofs.lemmas.List.Sums.{prefix_len-le-length}
use Rattle.python_brace_format.specs.BraceFields.{is_word}
use Rattle.named_formats.proofs.directives.split_name.Goals as goal

pub split_at-requires : goal.split_at-requires
split_at-requires c = omega (arith, c.word_len.ensures, prefix_len-le-length is_word c.args.text.now)
