-- The values of a rule that repeats.
use Rattle.std.proofs.Common.{◌≡◌, ℕ, ◌<◌, true, false, None, ap, sym, ◌∙◌, refl, inl, inr, arith}
use Rattle.std.specs.Prelude.{nat_lt}
use Rattle.std.specs.Option.{option_map_or}
use Rattle.std.proofs.lemmas.Bool.{cases_lt}
use Rattle.po_header.specs.Grammar.{Tree}
use Rattle.po_header.specs.Repeats.{Repeats, folded_number}
use Rattle.po_checks.specs.Checks.{has_form}
use Rattle.po_checks.specs.Findings.{FirstWithoutForm, HasAllValues}

pub repeated : (tree : Tree) → Repeats tree → HasAllValues tree 200
repeated tree again n le = elim (cases_lt n 200) [
  | inl lt ↦ (n, lt, refl)
  | inr ge ↦ (folded_number n, omega arith, again.again n (omega (arith, ge)))
]

pub each : (tree : Tree) → HasAllValues tree 1001
each tree n le = (n, omega (arith, le), refl)

-- all numbers have a form if those below the end have one
pub all_have : (nplurals : ℕ) (tree : Tree) (end : ℕ) → HasAllValues tree end
    → ((m : ℕ) → m < end → has_form nplurals tree m ≡ true) → FirstWithoutForm nplurals tree None
all_have nplurals tree end all each n le = let (m, lt, same) = all n le in
    ap (λ v. option_map_or (λ form. nat_lt form nplurals) v false) (sym same) ∙ each m lt
