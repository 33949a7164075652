use Rattle.std.proofs.Common.{sym}
use Rattle.format_arguments.proofs.TextLemmas.{step_shorter}
use Rattle.lisp_formats.specs.LispDirectives.{tilde, view, DirectiveAt}
use Rattle.lisp_formats.proofs.LispDirectiveLemmas.{are_directives}
use Rattle.lisp_formats.proofs.LispTextLemmas.{itself, reads_further, unreadable, is_format, is_unread}
use Rattle.lisp_formats.proofs.format.signature.Goals as goal

pub returns-in_default-2-clause-err : goal.returns-in_default-2-clause-err
returns-in_default-2-clause-err c = unreadable c.args.notation c.args.text.now c.directives.rest.now
    c.in-Some.behind.now c.directives.asked.items c.directives.invariant c.in-Some.ensures
    (rw c.in_default-2.is at c.in_ok-directive.ensures)

pub returns-then-not-is_read-clause-err : goal.returns-then-not-is_read-clause-err
returns-then-not-is_read-clause-err c =
    let here = rw c.in-Some-2.is at c.in_ok-directive.ensures in
    is_unread c.args.notation c.args.text.now c.directives.rest.now c.in-Some.behind.now c.in-Some-2.after.now
    (view c.in-Some-2.directive) c.directives.asked.items c.directives.invariant c.in-Some.ensures here
    (sym c.if-not-is_read.ensures)

pub directives-smaller : goal.directives-smaller
directives-smaller c =
    let here = rw c.in-Some-2.is at c.in_ok-directive.ensures in
    step_shorter tilde (DirectiveAt c.args.notation) (are_directives c.args.notation) itself c.directives.rest.now
    c.in-Some.behind.now c.in-Some-2.after.now (view c.in-Some-2.directive) c.in-Some.ensures here

pub directives-preserved : goal.directives-preserved
directives-preserved c =
    let here = rw c.in-Some-2.is at c.in_ok-directive.ensures in
    reads_further c.args.notation c.args.text.now c.directives.rest.now c.in-Some.behind.now c.in-Some-2.after.now
    (view c.in-Some-2.directive) c.directives.asked.items c.add.new.asked.items c.directives.invariant
    c.in-Some.ensures here (sym c.if-not-is_read.ensures) c.in_ok-add.ensures

pub returns-clause-ok : goal.returns-clause-ok
returns-clause-ok c = is_format c.args.notation c.args.text.now c.directives.rest.now c.directives.asked.items
    c.directives.invariant c.in_default.ensures
