use Rattle.std.proofs.Common.{List, ap, refl, sym, ◌∙◌}
use Rattle.format_arguments.proofs.TextLemmas.{step_shorter}
use Rattle.numbered_arguments.specs.declared.Numbered.{Numbered}
use Rattle.numbered_arguments.specs.NumberedArguments.{list_of}
use Rattle.numbered_formats.specs.NumberGaps.{fit}
use Rattle.numbered_arguments.proofs.NumberedTextLemmas.{counts_on, unreadable, asks_for, unfit}
use Rattle.numbered_formats.specs.NumberDirectives.{percent, DirectiveAt}
use Rattle.numbered_formats.specs.NumberFormat.{fits}
use Rattle.numbered_formats.proofs.NumberDirectiveLemmas.{are_directives}
use Rattle.numbered_formats.proofs.format.signature.Goals as goal

pub returns-in_default-read_directive-clause-err : goal.returns-in_default-read_directive-clause-err
returns-in_default-read_directive-clause-err c = unreadable percent (DirectiveAt c.args.notation)
    (are_directives c.args.notation) list_of (fits c.args.notation)
    c.args.text.now c.directives.rest.now c.in-Some.behind.now c.directives.numbering c.directives.invariant
    c.in-Some.ensures c.in_default-read_directive.ensures

pub directives-smaller : goal.directives-smaller
directives-smaller c = step_shorter percent (DirectiveAt c.args.notation) (are_directives c.args.notation) list_of
    c.directives.rest.now
    c.in-Some.behind.now c.in-Some-read_directive.after.now c.in-Some-read_directive.request c.in-Some.ensures
    c.in-Some-read_directive.ensures

pub directives-preserved : goal.directives-preserved
directives-preserved c = counts_on percent (DirectiveAt c.args.notation) (are_directives c.args.notation) list_of
    c.args.text.now c.directives.rest.now
    c.in-Some.behind.now c.in-Some-read_directive.after.now c.in-Some-read_directive.request c.directives.numbering
    c.add.new.self c.directives.invariant c.in-Some.ensures c.in-Some-read_directive.ensures c.in_ok-add.ensures

pub returns-then-fitting-clause-ok : goal.returns-then-fitting-clause-ok
returns-then-fitting-clause-ok c = asks_for percent (DirectiveAt c.args.notation)
    (are_directives c.args.notation) list_of (fits c.args.notation) c.args.text.now
    c.directives.rest.now c.directives.numbering _ c.directives.invariant c.in_default.ensures refl
    (ap (λ (asked : List Numbered). fit c.args.notation asked) (sym c.directives.invariant.numbered.asked)
    ∙ rw c.deref.ensures.value at (sym c.in_ok-fitting.ensures ∙ c.if-fitting.true))

pub returns-else-fitting-clause-err : goal.returns-else-fitting-clause-err
returns-else-fitting-clause-err c = unfit percent (DirectiveAt c.args.notation) (are_directives c.args.notation)
    list_of (fits c.args.notation) c.args.text.now
    c.directives.rest.now c.directives.numbering c.directives.invariant c.in_default.ensures
    (ap (λ (asked : List Numbered). fit c.args.notation asked) (sym c.directives.invariant.numbered.asked)
    ∙ rw c.deref.ensures.value at (sym c.in_ok-fitting.ensures ∙ c.if-fitting.false))
