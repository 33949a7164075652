use Rattle.std.proofs.Common.{rules}
use Rattle.entry_search.proofs.find.Sought.cmp_original.Goals as goal

pub returns-in-Some : goal.returns-in-Some
returns-in-Some c = search rules
