use Rattle.std.proofs.Common.{rules}
use Rattle.live_versions.proofs.Steps.{enters}
use Rattle.live_versions.proofs.reader.Lookups.enter.Goals as goal

pub enter_as-requires : goal.enter_as-requires
enter_as-requires c x = enters _ _ x

pub new-visit-requires : goal.new-visit-requires
new-visit-requires c = search rules

pub returns-else-self : goal.returns-else-self
returns-else-self c = search rules
