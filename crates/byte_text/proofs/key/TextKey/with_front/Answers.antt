use Rattle.std.proofs.Common.{rules}
use Rattle.byte_text.proofs.key.TextKey.with_front.Goals as goal

pub returns : goal.returns
returns c = search rules
