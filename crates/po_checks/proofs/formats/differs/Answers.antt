use Rattle.std.proofs.Common.{rules}
use Rattle.po_checks.proofs.formats.differs.Goals as goal

pub returns-in-Arguments-Arguments : goal.returns-in-Arguments-Arguments
returns-in-Arguments-Arguments c = search rules
