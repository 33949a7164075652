use Rattle.std.proofs.Common.{rules}
use Rattle.entry_search.proofs.find.compare.Goals as goal

pub returns-clause-step : goal.returns-clause-step
returns-clause-step g c = search rules
