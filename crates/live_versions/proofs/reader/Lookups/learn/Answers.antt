use Rattle.std.proofs.Common.{rules}
use Rattle.live_versions.proofs.reader.Lookups.learn.Goals as goal

pub returns-then-begins-clause-longer : goal.returns-then-begins-clause-longer
returns-then-begins-clause-longer c = search rules
