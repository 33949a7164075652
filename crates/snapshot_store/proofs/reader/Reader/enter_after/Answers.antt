use Rattle.std.proofs.Common.{rules}
use Rattle.snapshot_store.proofs.reader.Reader.enter_after.Goals as goal

pub returns-clause-sees : goal.returns-clause-sees
returns-clause-sees c = search rules
