use Rattle.std.proofs.Common.{map, ap, ◌∙◌}
use Rattle.format_arguments.specs.ArgumentViews.{argument_view}
use Rattle.format_arguments.proofs.TextLemmas.{reads_on, step_shorter}
use Rattle.ruby_format.specs.RubyPieces.{percent}
use Rattle.ruby_format.specs.RubyDirectives.{DirectiveAt, references}
use Rattle.ruby_format.specs.RubyScanning.{directive_view, reference_view}
use Rattle.ruby_format.proofs.RubyDirectiveLemmas.{are_directives}
use Rattle.ruby_format.proofs.RubyTextLemmas.{unreadable, has_signature, unfit, asked_are, fit_is}
use Rattle.ruby_format.proofs.format.signature.Goals as goal

pub returns-in_default-read_directive-clause-err : goal.returns-in_default-read_directive-clause-err
returns-in_default-read_directive-clause-err c = unreadable c.args.text.now c.directives.rest.now c.in-Some.behind.now _
    c.directives.invariant c.in-Some.ensures c.in_default-read_directive.ensures

pub directives-smaller : goal.directives-smaller
directives-smaller c = step_shorter percent DirectiveAt are_directives references c.directives.rest.now
    c.in-Some.behind.now c.in-Some-read_directive.after.now _ c.in-Some.ensures c.in-Some-read_directive.ensures

pub directives-preserved : goal.directives-preserved
directives-preserved c = reads_on percent DirectiveAt are_directives references c.args.text.now
    c.directives.rest.now c.in-Some.behind.now c.in-Some-read_directive.after.now
    (directive_view c.in-Some-read_directive.directive) _ _ c.directives.invariant c.in-Some.ensures
    c.in-Some-read_directive.ensures c.in_ok-refer.ensures

pub returns-then-fit-clause-ok : goal.returns-then-fit-clause-ok
returns-then-fit-clause-ok c =
    let rs = map reference_view c.directives.references.items in
    let one = ap (map reference_view) c.deref.ensures.value in
    let asked = asked_are rs _ _ _ (map argument_view c.in_ok-asked.asked.items) one
    (ap (map reference_view) c.deref-2.ensures.value) c.in_ok-kinds.ensures c.in_ok-asked.ensures in
    has_signature c.args.text.now c.directives.rest.now rs _ c.directives.invariant c.in_default.ensures asked
    (fit_is rs _ _ c.in_ok-kinds.kinds.entries _ c.in_ok-fit.fit one (ap (map reference_view) c.deref-3.ensures.value)
    c.in_ok-kinds.ensures (ap (map argument_view) c.deref-4.ensures.value ∙ asked) c.in_ok-fit.ensures
    ∙ c.if-fit.true)

pub returns-clause-err : goal.returns-clause-err
returns-clause-err c =
    let rs = map reference_view c.directives.references.items in
    let one = ap (map reference_view) c.deref.ensures.value in
    let asked = asked_are rs _ _ _ (map argument_view c.in_ok-asked.asked.items) one
    (ap (map reference_view) c.deref-2.ensures.value) c.in_ok-kinds.ensures c.in_ok-asked.ensures in
    unfit c.args.text.now c.directives.rest.now rs c.directives.invariant c.in_default.ensures
    (fit_is rs _ _ c.in_ok-kinds.kinds.entries _ c.in_ok-fit.fit one (ap (map reference_view) c.deref-3.ensures.value)
    c.in_ok-kinds.ensures (ap (map argument_view) c.deref-4.ensures.value ∙ asked) c.in_ok-fit.ensures
    ∙ c.if-fit.false)
