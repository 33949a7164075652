use Rattle.std.proofs.Common.{rules}
use Rattle.mo_tables.proofs.texts.has_lawful_header.Goals as goal

pub returns-in-Ok : goal.returns-in-Ok
returns-in-Ok c = search rules
