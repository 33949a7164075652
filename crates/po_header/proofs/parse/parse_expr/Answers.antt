use Rattle.std.proofs.Common.{rules, ◌≡◌}
use Rattle.std.proofs.lemmas.Result.{err_from_is_err_and}
use Rattle.po_header.specs.declared.ExprFault.TheVariants.{Malformed}
use Rattle.po_header.proofs.FaultLemmas.{malformed_says}
use Rattle.po_header.proofs.parse.parse_expr.Goals as goal

pub returns-in_err-node-clause-malformed : goal.returns-in_err-node-clause-malformed
returns-in_err-node-clause-malformed c e =
    let p = err_from_is_err_and c.from_residual.result c.from_residual.ensures.1 in
    let x = p.1 in
    let y = p.2 in
    let same : c.in_err-node.field-0.0 ≡ Malformed = cc (e, x, y) in
    rw (c.expression_at-front.ensures, c.as_bytes.ensures.value) at
    (malformed_says c.in_err-node.field-0.0 same c.in_err-node.ensures.err)

pub returns-then-front-gt-EXPRESSION_LIMIT-clause-too_long : goal.returns-then-front-gt-EXPRESSION_LIMIT-clause-too_long
returns-then-front-gt-EXPRESSION_LIMIT-clause-too_long c = search rules
