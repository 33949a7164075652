use Rattle.std.proofs.Common.{◌≡◌, List, [], map, rules, subst, sym, ◌∙◌}
use Rattle.format_arguments.specs.declared.Argument as code_argument
use Rattle.format_arguments.specs.ArgumentViews.{argument_view}
use Rattle.format_arguments.proofs.TextLemmas.{HasRead, read_nothing, unreadable, step_shorter, reads_on}
use Rattle.format_arguments.proofs.TextLemmas.{has_signature, inconsistent}
use Rattle.python_format.specs.PythonPieces.{percent}
use Rattle.python_format.specs.PythonDirectives.{DirectiveAt, asks}
use Rattle.python_format.specs.PythonScanning.{directive_view}
use Rattle.python_format.proofs.DirectiveLemmas.{are_directives}
use Rattle.python_format.proofs.format.signature.Goals as goal

pub directives-init : goal.directives-init
directives-init c =
    let none : c.new-asked.result.items ≡ [] = search rules in
    let text = c.args.text.now in
    subst (λ (items : List code_argument.Argument). HasRead percent DirectiveAt are_directives asks text text
    (map argument_view items)) (sym none) (read_nothing percent DirectiveAt are_directives asks text)

pub returns-in_default-read_directive-clause-err : goal.returns-in_default-read_directive-clause-err
returns-in_default-read_directive-clause-err c = unreadable percent DirectiveAt are_directives asks c.args.text.now
    c.directives.rest.now c.in-Some.behind.now _ c.directives.invariant c.in-Some.ensures
    c.in_default-read_directive.ensures

pub directives-smaller : goal.directives-smaller
directives-smaller c = step_shorter percent DirectiveAt are_directives asks c.directives.rest.now c.in-Some.behind.now
    c.in-Some-read_directive.after.now _ c.in-Some.ensures c.in-Some-read_directive.ensures

pub directives-preserved : goal.directives-preserved
directives-preserved c = reads_on percent DirectiveAt are_directives asks c.args.text.now c.directives.rest.now
    c.in-Some.behind.now c.in-Some-read_directive.after.now (directive_view c.in-Some-read_directive.directive) _ _
    c.directives.invariant c.in-Some.ensures c.in-Some-read_directive.ensures c.in_ok-ask.ensures

pub returns-then-consistent-clause-ok : goal.returns-then-consistent-clause-ok
returns-then-consistent-clause-ok c = has_signature percent DirectiveAt are_directives asks c.args.text.now
    c.directives.rest.now _ c.directives.invariant c.in_default.ensures
    (rw c.deref.ensures.value at (sym c.in_ok-consistent.ensures ∙ c.if-consistent.true))

pub returns-clause-err : goal.returns-clause-err
returns-clause-err c = inconsistent percent DirectiveAt are_directives asks c.args.text.now c.directives.rest.now _
    c.directives.invariant c.in_default.ensures
    (rw c.deref.ensures.value at (sym c.in_ok-consistent.ensures ∙ c.if-consistent.false))
