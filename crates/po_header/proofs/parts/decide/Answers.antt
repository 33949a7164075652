use Rattle.std.proofs.Common.{rules}
use Rattle.po_header.proofs.parts.decide.Goals as goal

pub returns-in_default-clause-none : goal.returns-in_default-clause-none
returns-in_default-clause-none c = search rules
