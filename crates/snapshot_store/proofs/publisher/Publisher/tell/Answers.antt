use Rattle.std.proofs.Common.{rules}
use Rattle.snapshot_store.proofs.publisher.Publisher.tell.Goals as goal

pub returns : goal.returns
returns c = search rules
