use Rattle.std.proofs.Common.{rules}
use Rattle.snapshot_store.proofs.publisher.Publisher.pending.Goals as goal

pub returns-clause-count : goal.returns-clause-count
returns-clause-count c = search rules
