use Rattle.std.proofs.Common.{rules}
use Rattle.live_versions.proofs.pinned.Pinned.version.Goals as goal

pub returns : goal.returns
returns c = search rules
