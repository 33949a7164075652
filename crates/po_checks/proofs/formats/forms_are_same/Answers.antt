use Rattle.std.proofs.Common.{◌≡◌, subst, take, arith, refl}
use Rattle.std.specs.List.{Any}
use Rattle.std.proofs.lemmas.List.{take_all}
use Rattle.c_signature.specs.Signature.{TakeSame}
use Rattle.po_checks.specs.Findings.{Strays}
use Rattle.po_checks.proofs.Checking.{none_take}
use Rattle.po_checks.proofs.formats.forms_are_same.Goals as goal

pub forms-preserved : goal.forms-preserved
forms-preserved c =
    let same : TakeSame c.args.entry.now.id c.form.result.now = subst (λ id. TakeSame id c.form.result.now)
    c.id-id.ensures (c.if-not-have_same_arguments.ensures refl) in
    none_take (Strays c.args.entry.now.id) c.args.entry.now.forms c.forms.k c.form.result.now c.form.ensures
    (λ strays. strays same) c.forms.invariant

pub returns : goal.returns
returns c = λ e.
    let all : take c.forms.k c.args.entry.now.forms ≡ c.args.entry.now.forms = take_all c.forms.k c.args.entry.now.forms
    (omega (arith, c.form_count-k-end.ensures.count, c.forms-test.false)) in
    subst (λ forms. Any (Strays c.args.entry.now.id) forms → ⊥) all c.forms.invariant
