use Rattle.std.proofs.Common.{rules}
use Rattle.live_versions.proofs.reader.Lookups.ask.Goals as goal

pub returns-clause-memory : goal.returns-clause-memory
returns-clause-memory c = search rules
