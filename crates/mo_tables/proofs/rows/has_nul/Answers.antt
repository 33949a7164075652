use Rattle.std.proofs.Common.{rules}
use Rattle.mo_tables.proofs.rows.has_nul.Goals as goal

pub returns : goal.returns
returns g c = search rules
