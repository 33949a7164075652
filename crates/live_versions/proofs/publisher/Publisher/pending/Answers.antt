use Rattle.std.proofs.Common.{rules}
use Rattle.live_versions.proofs.publisher.Publisher.pending.Goals as goal

pub returns-clause-count : goal.returns-clause-count
returns-clause-count c = search rules

pub returns-clause-within : goal.returns-clause-within
returns-clause-within c = search rules
