use Rattle.std.proofs.Common.{rules}
use Rattle.snapshot_store.proofs.publisher.Publisher.publish_pending.Goals as goal

pub returns-in_default-clause-err : goal.returns-in_default-clause-err
returns-in_default-clause-err c = search rules
