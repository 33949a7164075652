use Rattle.std.proofs.Common.{rules}
use Rattle.entry_search.proofs.find.is_same.Goals as goal

pub returns-clause-same : goal.returns-clause-same
returns-clause-same g c = search rules
