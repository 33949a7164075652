use Rattle.std.proofs.Common.{rules}
use Rattle.mo_tables.proofs.texts.is_below.Goals as goal

pub returns : goal.returns
returns c = search rules
