use Rattle.std.proofs.Common.{rules}
use Rattle.mo_image.proofs.entry.key_within.Goals as goal

pub returns-in-Some : goal.returns-in-Some
returns-in-Some c = search rules
