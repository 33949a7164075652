use Rattle.std.proofs.Common.{rules}
use Rattle.mo_image.proofs.image.Image.entry.Goals as goal

pub returns : goal.returns
returns c = search rules
