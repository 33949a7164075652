use Rattle.std.proofs.Common.{rules}
use Rattle.live_versions.proofs.publisher.Publisher.tell.Goals as goal

pub returns-clause-notice : goal.returns-clause-notice
returns-clause-notice c = search rules
