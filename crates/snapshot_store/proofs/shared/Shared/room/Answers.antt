use Rattle.std.proofs.Common.{rules}
use Rattle.snapshot_store.proofs.shared.Shared.room.Goals as goal

pub returns : goal.returns
returns c = search rules
