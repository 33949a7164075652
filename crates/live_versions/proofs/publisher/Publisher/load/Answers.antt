use Rattle.std.proofs.Common.{rules}
use Rattle.live_versions.proofs.publisher.Publisher.load.Goals as goal

pub returns-clause-unchanged : goal.returns-clause-unchanged
returns-clause-unchanged c = search rules
