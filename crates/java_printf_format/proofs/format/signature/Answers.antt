use Rattle.std.proofs.Common.{sym, ◌∙◌}
use Rattle.std.proofs.lemmas.Result.{err_from_is_err_and}
use Rattle.format_arguments.proofs.TextLemmas.{step_shorter}
use Rattle.java_printf_format.specs.PrintfDirectives.{percent, DirectiveAt}
use Rattle.java_printf_format.proofs.PrintfDirectiveLemmas.{are_directives}
use Rattle.java_printf_format.proofs.PrintfTextLemmas.{itself, counts_on, unreadable, fault_is, is_format, inconsistent}
use Rattle.java_printf_format.proofs.format.signature.Goals as goal

pub returns-in_default-read_directive-clause-err : goal.returns-in_default-read_directive-clause-err
returns-in_default-read_directive-clause-err c = unreadable c.args.text.now c.directives.rest.now
    c.in-Some.behind.now c.directives.collected c.directives.invariant c.in-Some.ensures
    c.in_default-read_directive.ensures

pub returns-in_err-add-clause-err : goal.returns-in_err-add-clause-err
returns-in_err-add-clause-err c =
    let p = err_from_is_err_and c.from_residual.result c.from_residual.ensures.1 in
    rw (p.1, p.2) (fault_is c.args.text.now c.directives.rest.now c.in-Some.behind.now
    c.in-Some-read_directive.after.now c.in-Some-read_directive.directive c.directives.collected
    c.in_err-add.field-0.0 c.directives.invariant c.in-Some.ensures c.in-Some-read_directive.ensures
    c.in_err-add.ensures.err)

pub directives-smaller : goal.directives-smaller
directives-smaller c = step_shorter percent DirectiveAt are_directives itself c.directives.rest.now
    c.in-Some.behind.now c.in-Some-read_directive.after.now c.in-Some-read_directive.directive c.in-Some.ensures
    c.in-Some-read_directive.ensures

pub directives-preserved : goal.directives-preserved
directives-preserved c = counts_on c.args.text.now c.directives.rest.now c.in-Some.behind.now
    c.in-Some-read_directive.after.now c.in-Some-read_directive.directive c.directives.collected c.add.new.self
    c.directives.invariant c.in-Some.ensures c.in-Some-read_directive.ensures c.in_ok-add.ensures.ok

pub returns-then-consistent-clause-ok : goal.returns-then-consistent-clause-ok
returns-then-consistent-clause-ok c = is_format c.args.text.now c.directives.rest.now c.directives.collected
    c.directives.invariant c.in_default.ensures
    (rw c.deref.ensures.value at (sym c.in_ok-consistent.ensures ∙ c.if-consistent.true))

pub returns-else-consistent-clause-err : goal.returns-else-consistent-clause-err
returns-else-consistent-clause-err c = inconsistent c.args.text.now c.directives.rest.now c.directives.collected
    c.directives.invariant c.in_default.ensures
    (rw c.deref.ensures.value at (sym c.in_ok-consistent.ensures ∙ c.if-consistent.false))
