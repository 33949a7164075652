use Rattle.std.proofs.Common.{◌∙◌}
use Rattle.mo_image.proofs.Closing.{piece_with_nul, with_nul_utf8}
use Rattle.mo_image.proofs.extent.text_with_nul_in.Goals as goal

pub from_utf8_unchecked-requires : goal.from_utf8_unchecked-requires
from_utf8_unchecked-requires c = with_nul_utf8 c.args.bytes.now c.args.extent c.requires

pub returns : goal.returns
returns c = c.from_utf8_unchecked.ensures ∙ piece_with_nul c.args.bytes.now c.args.extent c.requires
