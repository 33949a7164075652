use Rattle.std.proofs.Common.{rules}
use Rattle.live_loads.proofs.Looking.{searched}
use Rattle.live_versions.proofs.pinned.Pinned.npgettext.Goals as goal

pub returns : goal.returns
returns c = search (rules, searched)
