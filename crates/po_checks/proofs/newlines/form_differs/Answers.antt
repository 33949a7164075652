use Rattle.std.proofs.Common.{sym, ◌∙◌, subst, arith}
use Rattle.std.specs.List.{Any}
use Rattle.std.proofs.lemmas.Bool.{false≢true}
use Rattle.std.proofs.lemmas.List.{take_all}
use Rattle.po_checks.specs.Findings.{NewlinesDiffer}
use Rattle.po_checks.proofs.Checking.{none_take}
use Rattle.po_checks.proofs.newlines.form_differs.Goals as goal

pub forms-preserved : goal.forms-preserved
forms-preserved c = none_take (NewlinesDiffer c.args.entry.now.id) c.args.entry.now.forms c.forms.k c.form.result.now
    c.form.ensures
    (λ d. false≢true (sym c.if-differ.false ∙ c.differ.ensures.1
    (subst (λ id. NewlinesDiffer id c.form.result.now) (sym c.id.ensures) d))) c.forms.invariant

pub returns : goal.returns
returns c = (
  (λ t. absurd (false≢true t)),
  (λ some. absurd (c.forms.invariant (subst (Any (NewlinesDiffer c.args.entry.now.id))
      (sym (take_all c.forms.k c.args.entry.now.forms (omega
      (arith, c.form_count-k-end.ensures.count, c.forms-test.false)))) some))),
)
