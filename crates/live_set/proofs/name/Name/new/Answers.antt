use Rattle.std.proofs.Common.{rules}
use Rattle.live_set.proofs.name.Name.new.Goals as goal

pub returns-clause-name : goal.returns-clause-name
returns-clause-name c = search rules

pub invariant_of-result : goal.invariant_of-result
invariant_of-result c = search rules
