use Rattle.std.proofs.Common.{◌≡◌, false, true, sym, subst, ◌∙◌, arith}
use Rattle.std.specs.List.{Any, join_with_byte}
use Rattle.dependent_files.specs.DigitsFlag.{HasFlag}
use Rattle.dependent_files.specs.FlagScanning.{may_have_flag}
use Rattle.dependent_files.proofs.FlagMaps.{forms_lack, found_is, none_at_all, none_is, one_more}
use Rattle.dependent_files.proofs.flag.entry_has_flag.Goals as goal

pub returns-then-not-may_have_flag : goal.returns-then-not-may_have_flag
returns-then-not-may_have_flag c =
    let forms = c.args.entry.now.forms in
    let no : c.may_have_flag.result ≡ false = cc c.if-not-may_have_flag.true in
    let none : may_have_flag (join_with_byte 0 forms) ≡ false =
    subst (λ t. may_have_flag t ≡ false) (c.as_bytes.ensures.value ∙ c.translation.ensures.joined)
    (sym c.may_have_flag.ensures ∙ no) in
    none_is (Any HasFlag forms) (forms_lack forms none)

pub returns-then-branch : goal.returns-then-branch
returns-then-branch c =
    let found : c.in_ok-form_has_flag.field-0 ≡ true = cc c.if-branch.true in
    found_is HasFlag c.args.entry.now.forms c.forms.k c.form.result.now c.in_ok-form_has_flag.field-0 c.form.ensures
    c.in_ok-form_has_flag.ensures found

pub forms-preserved : goal.forms-preserved
forms-preserved c =
    let lacks : c.in_ok-form_has_flag.field-0 ≡ false = cc c.if-branch.false in
    one_more HasFlag c.args.entry.now.forms c.forms.k c.form.result.now c.in_ok-form_has_flag.field-0 c.form.ensures
    c.in_ok-form_has_flag.ensures lacks c.forms.invariant

pub returns : goal.returns
returns c = none_at_all HasFlag c.args.entry.now.forms c.forms.k
    (omega (arith, c.form_count-k-end.ensures.count, c.forms-test.false)) c.forms.invariant
