use Rattle.std.proofs.Common.{rules}
use Rattle.snapshot_store.proofs.reader.Reader.enter_after_known.Goals as goal

pub returns-clause-sees : goal.returns-clause-sees
returns-clause-sees c = search rules

pub returns-clause-later : goal.returns-clause-later
returns-clause-later c = search rules
