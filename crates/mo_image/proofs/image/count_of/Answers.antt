use Rattle.std.proofs.Common.{◌∙◌}
use Rattle.mo_image.proofs.ImageFacts.{image_describes, header_long}
use Rattle.mo_image.proofs.image.count_of.Goals as goal

pub word-requires : goal.word-requires
word-requires c = header_long c.args.bytes.now c.requires

pub returns : goal.returns
returns c = c.word.ensures ∙ (image_describes c.args.bytes.now c.requires).count
