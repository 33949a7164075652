use Rattle.std.proofs.Common.{◌≡◌, ◌≤◌}
use Rattle.po_header.specs.Expr.{tree_of}
use Rattle.po_formats.specs.Often.{forms_served}
use Rattle.po_formats.proofs.often.forms_served.Given as goal

abbrev pub invariant-forms : goal.invariant-forms
invariant-forms l = (l.often.items ≡ forms_served (tree_of l.expr) l.form) × (l.form ≤ l.nplurals)
