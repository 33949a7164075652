use Rattle.std.proofs.Common.{◌≡◌, subst, take, arith}
use Rattle.std.specs.Prelude.{◌↔◌, IsTrue}
use Rattle.std.specs.List.{Any}
use Rattle.std.proofs.lemmas.List.{take_all}
use Rattle.c_signature.specs.Signature.{IsSystemDependent}
use Rattle.po_checks.specs.Findings.{DiffersFrom}
use Rattle.po_checks.proofs.Checking.{one_more_form}
use Rattle.po_checks.proofs.formats.form_faults.Goals as goal

pub forms-preserved : goal.forms-preserved
forms-preserved c =
    one_more_form c.args.original.now c.args.rule c.args.entry.now.forms c.forms.k c.forms.faults
    c.with_form-faults.result c.form.result.now c.in_ok-form.form c.forms.invariant c.form.ensures
    c.in_ok-form.ensures c.with_form-faults.ensures.dependent c.with_form-faults.ensures.mismatch

pub returns-clause-dependent : goal.returns-clause-dependent
returns-clause-dependent c =
    let all : take c.forms.k c.args.entry.now.forms ≡ c.args.entry.now.forms = take_all c.forms.k c.args.entry.now.forms
    (omega (arith, c.form_count-k-end.ensures.count, c.forms-test.false)) in
    subst (λ forms. IsTrue c.forms.faults.system_dependent ↔ Any IsSystemDependent forms) all
    c.forms.invariant.dependent

pub returns-clause-mismatch : goal.returns-clause-mismatch
returns-clause-mismatch c =
    let all : take c.forms.k c.args.entry.now.forms ≡ c.args.entry.now.forms = take_all c.forms.k c.args.entry.now.forms
    (omega (arith, c.form_count-k-end.ensures.count, c.forms-test.false)) in
    subst (λ forms. IsTrue c.forms.faults.mismatch ↔ Any (DiffersFrom c.args.original.now c.args.rule) forms) all
    c.forms.invariant.mismatch
