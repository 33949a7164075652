use Rattle.std.proofs.Common.{◌≡◌, List, ℕ, subst, take, arith}
use Rattle.std.specs.Prelude.{◌↔◌, IsTrue}
use Rattle.std.specs.List.{Any}
use Rattle.std.proofs.lemmas.List.{take_all}
use Rattle.dependent_po.specs.Formats.{Differs}
use Rattle.dependent_po.proofs.FormatLemmas.{no_form, one_more_form}
use Rattle.dependent_po.proofs.formats.some_form_differs.Goals as goal

pub forms-init : goal.forms-init
forms-init c = no_form (Differs c.args.original.now c.args.rule) c.args.entry.now.forms

pub forms-preserved : goal.forms-preserved
forms-preserved c =
    one_more_form c.args.original.now c.args.rule c.args.entry.now.forms c.forms.k c.form.result.now c.in_ok-form.form
    c.forms.some c.differs_or-some.result c.forms.invariant c.form.ensures c.in_ok-form.ensures
    c.differs_or-some.ensures

pub returns : goal.returns
returns c =
    let all : take c.forms.k c.args.entry.now.forms ≡ c.args.entry.now.forms = take_all c.forms.k c.args.entry.now.forms
    (omega (arith, c.form_count-k-end.ensures.count, c.forms-test.false)) in
    subst (λ (forms : List (List ℕ)). IsTrue c.forms.some ↔ Any (Differs c.args.original.now c.args.rule) forms) all
    c.forms.invariant
