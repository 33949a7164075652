use Rattle.std.proofs.Common.{◌≡◌, ℕ, ◌<◌, true}
use Rattle.po_header.specs.Expr.{tree_of}
use Rattle.po_checks.specs.Checks.{has_form}
use Rattle.po_checks.proofs.plurals.first_without_form.Given as goal

abbrev pub invariant-numbers : goal.invariant-numbers
invariant-numbers l = (m : ℕ) → m < l.n → has_form l.nplurals (tree_of l.expr) m ≡ true
