use Rattle.std.proofs.Common.{rules}
use Rattle.entry_search.proofs.asked.AskedKey.new.Goals as goal

pub returns : goal.returns
returns c = search rules
