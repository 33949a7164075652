use Rattle.mo_image.proofs.Kit.{◌≡◌, ◌==◌, ◌<◌, List, ℕ, length, drop, AllByRecursion, slice_split, LacksByte, with_nul}
use Rattle.mo_image.proofs.Kit.{pool}
use denote.Shadow.{shadow}
use denote.Text.{Utf8}
use Rattle.mo_image.proofs.entry.form_with_nul_at.Given as goal

abbrev pub invariant-skipped : goal.invariant-skipped
invariant-skipped l = shadow (Utf8 l.left) × ((t : List ℕ) → l.forms ≡ with_nul t
    → AllByRecursion (LacksByte 0) (slice_split (λ b. b == 0) t) → l.k < length (slice_split (λ b. b == 0) t)
    → l.left ≡ pool (drop l._i (slice_split (λ b. b == 0) t)))
