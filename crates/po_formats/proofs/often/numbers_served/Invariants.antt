use Rattle.std.proofs.Common.{◌≡◌, ◌≤◌}
use Rattle.po_header.specs.Expr.{tree_of}
use Rattle.po_formats.specs.Often.{served_below}
use Rattle.po_formats.proofs.often.numbers_served.Given as goal

abbrev pub invariant-numbers : goal.invariant-numbers
invariant-numbers l = (l.count ≡ served_below (tree_of l.expr) l.form l.n) × (l.count ≤ l.n) × (l.n ≤ 1001)
