use Rattle.format_arguments.proofs.TextLemmas.{step_shorter}
use Rattle.numbered_arguments.specs.NumberedArguments.{list_of}
use Rattle.gfc_internal_format.specs.GfcDirectives.{percent, DirectiveAt}
use Rattle.gfc_internal_format.proofs.GfcDirectiveLemmas.{are_directives}
use Rattle.gfc_internal_format.proofs.GfcTextLemmas.{read_to_begin, reads_further, unreadable, is_format, no_list}
use Rattle.gfc_internal_format.proofs.format.signature.Goals as goal

pub directives-init : goal.directives-init
directives-init c = read_to_begin c.args.text.now c.new-counted.result c.new-counted.ensures

pub returns-in_default-read_directive-clause-err : goal.returns-in_default-read_directive-clause-err
returns-in_default-read_directive-clause-err c = unreadable c.args.text.now c.directives.rest.now
    c.in-Some.behind.now c.directives.counted c.directives.invariant c.in-Some.ensures
    c.in_default-read_directive.ensures

pub directives-smaller : goal.directives-smaller
directives-smaller c = step_shorter percent DirectiveAt are_directives list_of c.directives.rest.now
    c.in-Some.behind.now c.in-Some-read_directive.after.now c.in-Some-read_directive.request c.in-Some.ensures
    c.in-Some-read_directive.ensures

pub directives-preserved : goal.directives-preserved
directives-preserved c = reads_further c.args.text.now c.directives.rest.now c.in-Some.behind.now
    c.in-Some-read_directive.after.now c.in-Some-read_directive.request c.directives.counted c.add.new.self
    c.directives.invariant c.in-Some.ensures c.in-Some-read_directive.ensures c.in_ok-add.ensures

pub returns-in-Some-2-clause-ok : goal.returns-in-Some-2-clause-ok
returns-in-Some-2-clause-ok c =
    let found = rw (c.in-Some-2.is, c.deref.ensures.value) at c.in_ok-asked.ensures in
    is_format c.args.text.now c.directives.rest.now c.directives.counted c.directives.invariant
    c.in_default.ensures c.in-Some-2.asked.items found.0 found.1

pub returns-clause-err : goal.returns-clause-err
returns-clause-err c = no_list c.args.text.now c.directives.rest.now c.directives.counted
    c.directives.invariant c.in_default.ensures
    (rw (c.in-None.is, c.deref.ensures.value) at c.in_ok-asked.ensures)
