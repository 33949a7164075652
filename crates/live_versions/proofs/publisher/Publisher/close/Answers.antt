use Rattle.std.proofs.Common.{rules}
use Rattle.live_versions.proofs.publisher.Publisher.close.Goals as goal

pub returns : goal.returns
returns g c = search rules
