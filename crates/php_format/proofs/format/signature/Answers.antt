use Rattle.std.proofs.Common.{List, ap, refl, sym, ◌∙◌}
use Rattle.format_arguments.proofs.TextLemmas.{step_shorter}
use Rattle.numbered_arguments.specs.declared.Numbered.{Numbered}
use Rattle.numbered_arguments.specs.NumberedArguments.{list_of, is_consistent}
use Rattle.numbered_arguments.proofs.NumberedTextLemmas.{counts_on, unreadable, asks_for, unfit}
use Rattle.php_format.specs.PhpPieces.{percent}
use Rattle.php_format.specs.PhpDirectives.{DirectiveAt}
use Rattle.php_format.specs.PhpFormat.{fits}
use Rattle.php_format.proofs.PhpDirectiveLemmas.{are_directives}
use Rattle.php_format.proofs.format.signature.Goals as goal

pub returns-in_default-read_directive-clause-err : goal.returns-in_default-read_directive-clause-err
returns-in_default-read_directive-clause-err c = unreadable percent DirectiveAt are_directives list_of fits
    c.args.text.now c.directives.rest.now c.in-Some.behind.now c.directives.numbering c.directives.invariant
    c.in-Some.ensures c.in_default-read_directive.ensures

pub directives-smaller : goal.directives-smaller
directives-smaller c = step_shorter percent DirectiveAt are_directives list_of c.directives.rest.now
    c.in-Some.behind.now c.in-Some-read_directive.after.now c.in-Some-read_directive.request c.in-Some.ensures
    c.in-Some-read_directive.ensures

pub directives-preserved : goal.directives-preserved
directives-preserved c = counts_on percent DirectiveAt are_directives list_of c.args.text.now c.directives.rest.now
    c.in-Some.behind.now c.in-Some-read_directive.after.now c.in-Some-read_directive.request c.directives.numbering
    c.add.new.self c.directives.invariant c.in-Some.ensures c.in-Some-read_directive.ensures c.in_ok-add.ensures

pub returns-then-consistent-clause-ok : goal.returns-then-consistent-clause-ok
returns-then-consistent-clause-ok c = asks_for percent DirectiveAt are_directives list_of fits c.args.text.now
    c.directives.rest.now c.directives.numbering _ c.directives.invariant c.in_default.ensures refl
    (ap (λ (asked : List Numbered). is_consistent asked) (sym c.directives.invariant.numbered.asked)
    ∙ rw c.deref.ensures.value at (sym c.in_ok-consistent.ensures ∙ c.if-consistent.true))

pub returns-else-consistent-clause-err : goal.returns-else-consistent-clause-err
returns-else-consistent-clause-err c = unfit percent DirectiveAt are_directives list_of fits c.args.text.now
    c.directives.rest.now c.directives.numbering c.directives.invariant c.in_default.ensures
    (ap (λ (asked : List Numbered). is_consistent asked) (sym c.directives.invariant.numbered.asked)
    ∙ rw c.deref.ensures.value at (sym c.in_ok-consistent.ensures ∙ c.if-consistent.false))
