use Rattle.std.proofs.Common.{rules}
use Rattle.mo_image.proofs.entry.split_context.Goals as goal

pub returns : goal.returns
returns c = search rules
