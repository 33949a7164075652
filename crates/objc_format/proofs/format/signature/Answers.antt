use Rattle.std.proofs.lemmas.Bool.{not-true, not-false}
use Rattle.format_arguments.proofs.TextLemmas.{step_shorter}
use Rattle.objc_format.specs.ObjcDirectives.{percent, DirectiveAt}
use Rattle.objc_format.proofs.ObjcDirectiveLemmas.{are_directives}
use Rattle.objc_format.proofs.ObjcTextLemmas.{itself, reads_further, unreadable, is_format, misfits, is_unread}
use Rattle.objc_format.proofs.format.signature.Goals as goal

pub returns-in_default-read_directive-clause-err : goal.returns-in_default-read_directive-clause-err
returns-in_default-read_directive-clause-err c = unreadable c.args.text.now c.directives.rest.now
    c.in-Some.behind.now c.directives.requests.items c.directives.invariant c.in-Some.ensures
    c.in_default-read_directive.ensures

pub returns-then-not-directive-clause-err : goal.returns-then-not-directive-clause-err
returns-then-not-directive-clause-err c =
    is_unread c.args.text.now c.directives.rest.now c.in-Some.behind.now c.in-Some-read_directive.after.now
    c.in-Some-read_directive.directive c.directives.requests.items c.directives.invariant c.in-Some.ensures
    c.in-Some-read_directive.ensures (not-true _ c.if-not-directive.true)

pub directives-smaller : goal.directives-smaller
directives-smaller c = step_shorter percent DirectiveAt are_directives itself c.directives.rest.now
    c.in-Some.behind.now c.in-Some-read_directive.after.now c.in-Some-read_directive.directive c.in-Some.ensures
    c.in-Some-read_directive.ensures

pub directives-preserved : goal.directives-preserved
directives-preserved c =
    reads_further c.args.text.now c.directives.rest.now c.in-Some.behind.now c.in-Some-read_directive.after.now
    c.in-Some-read_directive.directive c.directives.requests.items c.add_all.new.requests.items c.directives.invariant
    c.in-Some.ensures c.in-Some-read_directive.ensures (not-false _ c.if-not-directive.false) c.in_ok-add_all.ensures

pub returns-in-Some-2-clause-ok : goal.returns-in-Some-2-clause-ok
returns-in-Some-2-clause-ok c =
    let found = rw (c.in-Some-2.is, c.deref.ensures.value) at c.in_ok-asked.ensures in
    is_format c.args.text.now c.directives.rest.now c.directives.requests.items c.directives.invariant
    c.in_default.ensures c.in-Some-2.asked.items found.0 found.1

pub returns-clause-err : goal.returns-clause-err
returns-clause-err c = misfits c.args.text.now c.directives.rest.now c.directives.requests.items
    c.directives.invariant c.in_default.ensures
    (rw (c.in-None.is, c.deref.ensures.value) at c.in_ok-asked.ensures)
