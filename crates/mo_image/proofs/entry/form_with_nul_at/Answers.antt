use Rattle.mo_image.proofs.Kit.{◌≡◌, ◌==◌, ℕ, rules, subst, drop, arith, ◌∙◌, slice_split, pool}
use Rattle.mo_image.proofs.Closing.{forms_with_nul, cut_at, cut_told}
use Rattle.mo_image.proofs.entry.form_with_nul_at.Goals as goal

pub skipped-init : goal.skipped-init
skipped-init c = (search rules, (λ t is lack lt. is ∙ forms_with_nul t))

pub split_with_nul-requires-text-forms : goal.split_with_nul-requires-text-forms
split_with_nul-requires-text-forms c κs = c.skipped.invariant.0

pub skipped-preserved : goal.skipped-preserved
skipped-preserved c = (
  search rules,
  (λ t is lack lt.
      let forms = slice_split (λ b. b == 0) t in
      (cut_told forms c.skipped._i _ _ _ (cut_at forms c.skipped._i lack (omega (arith, c.skipped-test.true, lt)))
      (c.skipped.invariant.1 t is lack lt) c.split_with_nul.ensures).1),
)

pub split_with_nul-requires-2-text-forms : goal.split_with_nul-requires-2-text-forms
split_with_nul-requires-2-text-forms c κs = c.skipped.invariant.0

pub returns : goal.returns
returns c t is lack lt =
    let forms = slice_split (λ b. b == 0) t in
    let same : c.skipped._i ≡ c.args.k = omega (arith, c.skipped.auto._i-end, c.skipped-test.false) in
    (cut_told forms c.args.k _ _ _ (cut_at forms c.args.k lack lt)
    (subst (λ (n : ℕ). c.skipped.left.now ≡ pool (drop n forms)) same (c.skipped.invariant.1 t is lack lt))
    c.split_with_nul-2.ensures).0
