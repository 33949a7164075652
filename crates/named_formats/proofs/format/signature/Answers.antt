use Rattle.std.proofs.Common.{◌≡◌, List, [], map, rules, subst, sym}
use Rattle.std.specs.Prelude.{option_map}
use Rattle.format_arguments.specs.declared.Argument as code_argument
use Rattle.format_arguments.specs.ArgumentViews.{argument_view}
use Rattle.format_arguments.proofs.TextLemmas.{HasRead, read_nothing, unreadable, step_shorter, reads_on, has_signature}
use Rattle.named_formats.specs.NameDirectives.{mark, DirectiveAt}
use Rattle.python_brace_format.specs.BraceDirectives.{asks}
use Rattle.named_formats.proofs.NameDirectiveLemmas.{are_directives}
use Rattle.python_brace_format.proofs.Consistency.{are_consistent}
use Rattle.named_formats.proofs.format.signature.Goals as goal

pub directives-init : goal.directives-init
directives-init c =
    let none : c.new-asked.result.items ≡ [] = search rules in
    let text = c.args.text.now in
    subst (λ (items : List code_argument.Argument). HasRead (mark c.args.notation) (DirectiveAt c.args.notation)
    (are_directives c.args.notation) asks text text
    (map argument_view items)) (sym none) (read_nothing (mark c.args.notation) (DirectiveAt c.args.notation)
    (are_directives c.args.notation) asks text)

pub returns-in_default-read_directive-clause-err : goal.returns-in_default-read_directive-clause-err
returns-in_default-read_directive-clause-err c = unreadable (mark c.args.notation) (DirectiveAt c.args.notation)
    (are_directives c.args.notation) asks c.args.text.now
    c.directives.rest.now c.in-Some.behind.now _ c.directives.invariant c.in-Some.ensures
    c.in_default-read_directive.ensures

pub directives-smaller : goal.directives-smaller
directives-smaller c = step_shorter (mark c.args.notation) (DirectiveAt c.args.notation)
    (are_directives c.args.notation) asks c.directives.rest.now
    c.in-Some.behind.now c.in-Some-read_directive.after.now _ c.in-Some.ensures c.in-Some-read_directive.ensures

pub directives-preserved : goal.directives-preserved
directives-preserved c = reads_on (mark c.args.notation) (DirectiveAt c.args.notation)
    (are_directives c.args.notation) asks c.args.text.now c.directives.rest.now
    c.in-Some.behind.now c.in-Some-read_directive.after.now (option_map (λ n. n.now) c.in-Some-read_directive.name) _ _
    c.directives.invariant c.in-Some.ensures c.in-Some-read_directive.ensures c.in_ok-ask.ensures

pub returns-clause-ok : goal.returns-clause-ok
returns-clause-ok c = has_signature (mark c.args.notation) (DirectiveAt c.args.notation)
    (are_directives c.args.notation) asks c.args.text.now c.directives.rest.now _
    c.directives.invariant c.in_default.ensures
    (are_consistent _ c.directives.invariant.directives c.directives.invariant.asked_is)
