use Rattle.std.proofs.lemmas.Result.{err_from_is_err_and, IfErr-weaker}
use Rattle.c_signature.proofs.FormatLemmas.{reads_on, none_listed, stopped}
use Rattle.c_signature.proofs.format.signature.Goals as goal

pub returns-in_err-directive-clause-err : goal.returns-in_err-directive-clause-err
returns-in_err-directive-clause-err c =
    let p = err_from_is_err_and c.from_residual.result c.from_residual.ensures.1 in
    rw (p.1, p.2) (stopped c.args.text.now c.directives.rest.now c.in-Some.behind.now _ c.in_err-directive.field-0.0
    c.directives.invariant c.in-Some.ensures c.in_err-directive.ensures.err)

pub directives-preserved : goal.directives-preserved
directives-preserved c =
    reads_on c.args.text.now c.directives.rest.now _ c.in_ok-directive.after.now c.in_ok-directive.directive _ _
    c.directives.invariant c.in-Some.ensures c.in_ok-directive.ensures.ok c.in_ok-add.ensures

pub returns-clause-err : goal.returns-clause-err
returns-clause-err c = IfErr-weaker c.list.result _ _ (λ fault none. none_listed c.args.text.now c.directives.rest.now _
    fault c.directives.invariant c.in_default.ensures none) c.list.ensures.err
