use Rattle.std.proofs.Common.{rules}
use Rattle.po_header.proofs.expr.first_values.Goals as goal

pub overflow_cast-value : goal.overflow_cast-value
overflow_cast-value c = search rules
