use Rattle.mo_image.proofs.Kit.{◌≡◌, ◌==◌, drop, slice_split}
use Rattle.mo_image.proofs.entry.form_at.Given as goal

abbrev pub invariant-skipped : goal.invariant-skipped
invariant-skipped l = l.forms ≡ drop l._i (slice_split (λ b. b == 0) l.translation)
