use Rattle.std.proofs.Common.{rules}
use Rattle.byte_text.proofs.offset.offset_in.Goals as goal

pub returns : goal.returns
returns c = search rules
