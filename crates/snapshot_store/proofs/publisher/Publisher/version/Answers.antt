use Rattle.std.proofs.Common.{rules}
use Rattle.snapshot_store.proofs.publisher.Publisher.version.Goals as goal

pub returns-clause-version : goal.returns-clause-version
returns-clause-version c = search rules
