use Rattle.std.proofs.Common.{rules}
use Rattle.entry_search.proofs.entries.Entries.index.Goals as goal

pub returns : goal.returns
returns c = search rules
