use Rattle.std.proofs.Common.{rules}
use Rattle.snapshot_store.proofs.publisher.Publisher.load.Goals as goal

pub returns-clause-err : goal.returns-clause-err
returns-clause-err c = search rules
