use Rattle.std.proofs.Common.{rules}
use Rattle.po_checks.proofs.fault.LoadFaultFromPoFault.from.Goals as goal

pub returns : goal.returns
returns c = search rules
