use Rattle.std.proofs.Common.{sym, ◌∙◌}
use Rattle.format_arguments.proofs.TextLemmas.{step_shorter}
use Rattle.gcc_internal_format.specs.GccDirectives.{percent, DirectiveAt}
use Rattle.gcc_internal_format.specs.GccCollecting.{asks}
use Rattle.gcc_internal_format.proofs.GccDirectiveLemmas.{are_directives}
use Rattle.gcc_internal_format.proofs.GccTextLemmas.{read_to_begin, reads_further, no_format, is_format, misfits}
use Rattle.gcc_internal_format.proofs.format.signature.Goals as goal

pub directives-init : goal.directives-init
directives-init c = read_to_begin c.args.text.now c.new-collected.result c.new-collected.ensures

pub returns-in_default-read_directive-clause-err : goal.returns-in_default-read_directive-clause-err
returns-in_default-read_directive-clause-err c = no_format c.args.text.now c.directives.rest.now
    c.in-Some.behind.now c.directives.collected c.directives.invariant c.in-Some.ensures
    c.in_default-read_directive.ensures

pub directives-smaller : goal.directives-smaller
directives-smaller c = step_shorter percent DirectiveAt are_directives asks
    c.directives.rest.now c.in-Some.behind.now c.in-Some-read_directive.after.now c.in-Some-read_directive.directive
    c.in-Some.ensures c.in-Some-read_directive.ensures

pub directives-preserved : goal.directives-preserved
directives-preserved c = reads_further c.args.text.now c.directives.rest.now c.in-Some.behind.now
    c.in-Some-read_directive.after.now c.in-Some-read_directive.directive c.directives.collected
    c.add_all.new.self c.directives.invariant c.in-Some.ensures c.in-Some-read_directive.ensures c.in_ok-add_all.ensures

pub returns-then-fitting-clause-ok : goal.returns-then-fitting-clause-ok
returns-then-fitting-clause-ok c = is_format c.args.text.now c.directives.rest.now
    c.directives.collected c.directives.invariant c.in_default.ensures
    (rw c.deref.ensures.value at (sym c.in_ok-fitting.ensures ∙ c.if-fitting.true))

pub returns-else-fitting-clause-err : goal.returns-else-fitting-clause-err
returns-else-fitting-clause-err c = misfits c.args.text.now c.directives.rest.now
    c.directives.collected c.directives.invariant c.in_default.ensures
    (rw c.deref.ensures.value at (sym c.in_ok-fitting.ensures ∙ c.if-fitting.false))
