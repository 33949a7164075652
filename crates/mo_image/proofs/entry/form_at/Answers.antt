use Rattle.mo_image.proofs.Kit.{◌≡◌, ◌==◌, ℕ, List, drop, subst, arith, slice_split}
use Rattle.mo_image.proofs.FormLists.{next_form, form_at, some_left}
use Rattle.mo_image.proofs.entry.form_at.Goals as goal

abbrev forms_of : List ℕ → List (List ℕ)
forms_of t = slice_split (λ b. b == 0) t

pub unreachable-requires : goal.unreachable-requires
unreachable-requires c = some_left (forms_of c.args.translation.now) _ c.skipped._i c.skipped.invariant
    (omega (arith, c.skipped-test.true, c.requires)) c.in_default.ensures.steps.0

pub skipped-preserved : goal.skipped-preserved
skipped-preserved c = next_form (forms_of c.args.translation.now) _ _ c.skipped._i c.in-Some.field-0.now
    c.skipped.invariant c.in-Some.ensures.steps

pub unreachable-requires-in_default-next : goal.unreachable-requires-in_default-next
unreachable-requires-in_default-next c = some_left (forms_of c.args.translation.now) _ c.skipped._i c.skipped.invariant
    (omega (arith, c.skipped.auto._i-end, c.requires)) c.in_default-next.ensures.steps.0

pub returns : goal.returns
returns c =
    let at : c.skipped._i ≡ c.args.k = omega (arith, c.skipped.auto._i-end, c.skipped-test.false) in
    form_at (forms_of c.args.translation.now) _ _ c.args.k c.in-Some-next.form.now
    (subst (λ (n : ℕ). c.skipped.forms ≡ drop n (forms_of c.args.translation.now)) at c.skipped.invariant)
    c.in-Some-next.ensures.steps
