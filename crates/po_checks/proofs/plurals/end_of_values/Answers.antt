use Rattle.po_header.specs.Expr.{tree_of}
use Rattle.po_checks.proofs.Values.{repeated, each}
use Rattle.po_checks.proofs.plurals.end_of_values.Goals as goal

pub returns-then-repeats-clause-all : goal.returns-then-repeats-clause-all
returns-then-repeats-clause-all c = repeated (tree_of c.args.expr.now) (c.repeats.ensures c.if-repeats.true)

pub returns-else-repeats-clause-all : goal.returns-else-repeats-clause-all
returns-else-repeats-clause-all c = each (tree_of c.args.expr.now)
