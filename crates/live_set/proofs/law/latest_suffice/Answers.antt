use Rattle.live_set.proofs.Latest.{latest_suffice}
use Rattle.live_set.proofs.law.latest_suffice.Goals as goal

pub returns : goal.returns
returns c = latest_suffice
