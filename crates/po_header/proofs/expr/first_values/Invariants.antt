use Rattle.po_header.specs.Formulas.{formula_tree}
use Rattle.po_header.proofs.Repeating.{Values}
use Rattle.po_header.proofs.expr.first_values.Given as goal

abbrev pub invariant-numbers : goal.invariant-numbers
invariant-numbers l = Values l.values.items (formula_tree l.formula) l.n
