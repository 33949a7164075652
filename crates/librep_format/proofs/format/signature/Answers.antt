use Rattle.std.proofs.Common.{sym, ◌∙◌}
use Rattle.format_arguments.proofs.TextLemmas.{step_shorter}
use Rattle.librep_format.specs.LibrepDirectives.{percent, DirectiveAt}
use Rattle.librep_format.proofs.LibrepDirectiveLemmas.{are_directives}
use Rattle.librep_format.proofs.LibrepTextLemmas.{itself, read_to_begin, reads_further, unreadable, is_format}
use Rattle.librep_format.proofs.LibrepTextLemmas.{inconsistent}
use Rattle.librep_format.proofs.format.signature.Goals as goal

pub directives-init : goal.directives-init
directives-init c = read_to_begin c.args.text.now c.new-counted.result c.new-counted.ensures

pub returns-in_default-read_directive-clause-err : goal.returns-in_default-read_directive-clause-err
returns-in_default-read_directive-clause-err c = unreadable c.args.text.now c.directives.rest.now
    c.in-Some.behind.now c.directives.counted c.directives.invariant c.in-Some.ensures
    c.in_default-read_directive.ensures

pub directives-smaller : goal.directives-smaller
directives-smaller c = step_shorter percent DirectiveAt are_directives itself c.directives.rest.now
    c.in-Some.behind.now c.in-Some-read_directive.after.now c.in-Some-read_directive.directive c.in-Some.ensures
    c.in-Some-read_directive.ensures

pub directives-preserved : goal.directives-preserved
directives-preserved c = reads_further c.args.text.now c.directives.rest.now c.in-Some.behind.now
    c.in-Some-read_directive.after.now c.in-Some-read_directive.directive c.directives.counted c.add.new.self
    c.directives.invariant c.in-Some.ensures c.in-Some-read_directive.ensures c.in_ok-add.ensures

pub returns-then-consistent-clause-ok : goal.returns-then-consistent-clause-ok
returns-then-consistent-clause-ok c = is_format c.args.text.now c.directives.rest.now c.directives.counted
    c.directives.invariant c.in_default.ensures
    (rw c.deref.ensures.value at (sym c.in_ok-consistent.ensures ∙ c.if-consistent.true))

pub returns-else-consistent-clause-err : goal.returns-else-consistent-clause-err
returns-else-consistent-clause-err c = inconsistent c.args.text.now c.directives.rest.now c.directives.counted
    c.directives.invariant c.in_default.ensures
    (rw c.deref.ensures.value at (sym c.in_ok-consistent.ensures ∙ c.if-consistent.false))
