-- Bytes that have no `%` leading to the flag `I`: neither has what is cut from them.
use Rattle.std.proofs.Common.{◌≡◌, ℕ, Bool, true, false, List, [], ◌∷◌, ◌++◌, refl, sym, ◌∙◌, one-add, inl, inr}
use Rattle.std.specs.Prelude.{◌||◌, ◌&&◌, ◌==◌}
use Rattle.std.specs.List.{list_all, list_any}
use Rattle.std.proofs.lemmas.Bool.{and_parts, and_cases, and_left, and_right, cases_Bool, or_parts, or_from}
use Rattle.format_arguments.specs.Bytes.{run}
use Rattle.c_signature.specs.Pieces.{percent}
use Rattle.c_macros.specs.MacroSplits.{other_digits}
use Rattle.dependent_files.specs.FlagScanning.{is_in_front, leads_to_flag, may_have_flag}

-- ---- the front of a text

module _ (p q : ℕ → Bool) where
  abbrev in_run : List ℕ → Bool
  in_run text = list_any q (run p text)

  run_step : (b : ℕ) (more : List ℕ) → in_run (b ∷ more) ≡ (p b && (q b || in_run more))
  run_step b more = elim (cases_Bool (p b)) [ inl passes ↦ rw (passes, one-add) refl | inr fails ↦ rw fails refl ]

  pub run_sooner : (text back : List ℕ) → in_run (text ++ back) ≡ false → in_run text ≡ false
  run_sooner [] back h = refl
  run_sooner (b ∷ more) back h =
      let parts = and_cases (p b) (q b || in_run (more ++ back)) (sym (run_step b (more ++ back)) ∙ h) in
      run_step b more ∙ elim parts [
        | inl fails ↦ and_left (p b) (q b || in_run more) fails
        | inr none ↦ let both = or_parts (q b) (in_run (more ++ back)) none in
            and_right (p b) (q b || in_run more) (or_from (q b) (in_run more) both.0 (run_sooner more back both.1))
      ]

  pub run_front : (front rest : List ℕ) → list_all p front ≡ true → in_run (front ++ rest) ≡ false
      → (list_any q front ≡ false) × (in_run rest ≡ false)
  run_front [] rest all h = (refl, h)
  run_front (b ∷ front) rest all h =
      let each = and_parts (p b) (list_all p front) all in
      let parts = sym (run_step b (front ++ rest)) ∙ h in
      let none : (q b || in_run (front ++ rest)) ≡ false = rw each.0 at parts in
      let both = or_parts (q b) (in_run (front ++ rest)) none in
      let later = run_front front rest each.1 both.1 in
      (or_from (q b) (list_any q front) both.0 later.0, later.1)

-- ---- a text

abbrev pub is_digits_flag : ℕ → Bool
is_digits_flag b = b == other_digits

pub later : (front rest : List ℕ) → may_have_flag (front ++ rest) ≡ false → may_have_flag rest ≡ false
later [] rest h = h
later (b ∷ front) rest h =
    later front rest (or_parts (b == percent && leads_to_flag (front ++ rest)) (may_have_flag (front ++ rest)) h).1

pub sooner : (text back : List ℕ) → may_have_flag (text ++ back) ≡ false → may_have_flag text ≡ false
sooner [] back h = refl
sooner (b ∷ more) back h =
    let parts = or_parts (b == percent && leads_to_flag (more ++ back)) (may_have_flag (more ++ back)) h in
    or_from (b == percent && leads_to_flag more) (may_have_flag more)
    (elim (and_cases (b == percent) (leads_to_flag (more ++ back)) parts.0) [
      | inl other ↦ and_left (b == percent) (leads_to_flag more) other
      | inr none ↦ and_right (b == percent) (leads_to_flag more) (run_sooner is_in_front is_digits_flag more back none)
    ])
    (sooner more back parts.1)

pub leads_not : (behind : List ℕ) → may_have_flag (percent ∷ behind) ≡ false → leads_to_flag behind ≡ false
leads_not behind h = (or_parts (leads_to_flag behind) (may_have_flag behind) h).0
