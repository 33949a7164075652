use Rattle.std.proofs.Common.{arith}
use Rattle.std.proofs.lemmas.List.Sums.{prefix_len-le-length}
use Rattle.csharp_format.specs.CSharpItems.{is_inner}
use Rattle.csharp_format.proofs.items.skip_inner.Goals as goal

pub split_at-requires : goal.split_at-requires
split_at-requires c = omega (arith, c.inner_len.ensures, prefix_len-le-length is_inner c.args.text.now)
