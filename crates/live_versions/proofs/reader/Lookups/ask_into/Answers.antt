use Rattle.std.proofs.Common.{rules}
use Rattle.live_versions.proofs.reader.Lookups.ask_into.Goals as goal

pub returns-in_default-clause-closed : goal.returns-in_default-clause-closed
returns-in_default-clause-closed c = search rules

pub returns-in-Ok-copied-clause-ok : goal.returns-in-Ok-copied-clause-ok
returns-in-Ok-copied-clause-ok c = search rules
