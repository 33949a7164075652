use Rattle.std.proofs.Common.{arith}
use Rattle.std.proofs.lemmas.List.Sums.{prefix_len-le-length}
use Rattle.lisp_formats.specs.LispDirectives.{is_modifier}
use Rattle.lisp_formats.proofs.directives.read_modifiers.Goals as goal

pub split_at-requires : goal.split_at-requires
split_at-requires c = omega (arith, c.modifiers_len.ensures, prefix_len-le-length is_modifier c.args.text.now)
