use Rattle.std.proofs.Common.{arith}
use Rattle.po_header.specs.Expr.{tree_of}
use Rattle.po_checks.proofs.Values.{all_have}
use Rattle.po_checks.proofs.plurals.first_without_form.Goals as goal

pub returns : goal.returns
returns c = all_have c.args.nplurals (tree_of c.args.expr.now) c.end_of_values-n-end.result
    c.end_of_values-n-end.ensures.all (λ m lt. c.numbers.invariant m (omega (arith, lt, c.numbers-test.false)))
