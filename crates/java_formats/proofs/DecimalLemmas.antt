-- A byte of a style of numbers that isn't escaped and is no quotation mark.
use Rattle.std.proofs.Common.{◌≡◌, ℕ, zero, suc, ◌≤◌, Bool, List, ◌∷◌, refl, arith, inl, inr, ◌==◌}
use Rattle.std.proofs.lemmas.Bool.{cases_Bool, eqb-true}
use Rattle.java_formats.specs.JavaQuotes.{quote}
use Rattle.java_formats.specs.JavaElements.{escape_len, has_digit, is_decimal}

pub decimal_step : (escaped : ℕ) (quoted found : Bool) (b : ℕ) (more : List ℕ) → escaped ≤ 0 → (b ≡ 39 → ⊥)
    → is_decimal escaped quoted found (b ∷ more)
    ≡ is_decimal (escape_len b more) quoted (has_digit quoted found b) more
decimal_step zero quoted found b more le other = elim (cases_Bool (b == quote)) [
  | inl e ↦ absurd (other (eqb-true b 39 e))
  | inr e ↦ rw e refl
]
decimal_step (suc escaped) quoted found b more le other = absurd (omega (arith, le))
