-- The run of bytes at the front that pass a test.
use Rattle.std.proofs.Common.{◌≡◌, ℕ, ◌≤◌, Bool, true, false, List, [], ◌∷◌, ◌++◌, length}
use Rattle.std.proofs.Common.{take, drop, refl, sym, ap, ◌∙◌, arith, one-add, inl, inr}
use Rattle.std.specs.List.{prefix_len, list_all}
use Rattle.std.proofs.lemmas.Bool.{cases_Bool, and_parts}
use Rattle.c_signature.specs.Readers.{Stops, IsRun}

run_cons : (p : ℕ → Bool) (b : ℕ) (text run rest : List ℕ) → p b ≡ true → IsRun p text run rest
    → IsRun p (b ∷ text) (b ∷ run) rest
run_cons p b text run rest passing more = record {
  text_is = ap (λ (t : List ℕ). b ∷ t) more.text_is;
  passes = rw passing more.passes;
  stops = more.stops;
}

-- the longest front that passes is a run
pub prefix_run : (p : ℕ → Bool) (text : List ℕ) → IsRun p text (take (prefix_len p text) text)
    (drop (prefix_len p text) text)
prefix_run p [] = record { text_is = refl; passes = refl; stops = tt }
prefix_run p (b ∷ text) = elim (cases_Bool (p b)) [
  | inl passing ↦ rw (passing, one-add) (run_cons p b text _ _ passing (prefix_run p text))
  | inr failing ↦ rw failing (record { text_is = refl; passes = refl; stops = failing })
]

pub run_is : (p : ℕ → Bool) (text front back : List ℕ) (n : ℕ) → n ≡ prefix_len p text → front ≡ take n text → back
    ≡ drop n text → IsRun p text front back
run_is p text front back n e f g = rw (f, g, e) (prefix_run p text)

-- no other front that passes is longer than the run
pub front_within : (p : ℕ → Bool) (run rest other more : List ℕ) → Stops p rest → run ++ rest ≡ other ++ more
    → list_all p other ≡ true → length other ≤ length run
front_within p run rest [] more stops e pass = omega arith
front_within p [] [] (c ∷ other) more stops e pass = absurd (cc e)
front_within p [] (b ∷ rest) (c ∷ other) more stops e pass =
    let same : b ≡ c = cc e in
    let passing = (and_parts (p c) (list_all p other) pass).0 in
    let here : p c ≡ false = rw (← same) stops in
    absurd (cc (passing, here))
front_within p (b ∷ run) rest (c ∷ other) more stops e pass =
    let tails : run ++ rest ≡ other ++ more = cc e in
    let fits = front_within p run rest other more stops tails (and_parts (p c) (list_all p other) pass).1 in
    omega arith

pub run_longest : (p : ℕ → Bool) (text run rest other more : List ℕ) → IsRun p text run rest → text ≡ other ++ more
    → list_all p other ≡ true → length other ≤ length run
run_longest p text run rest other more is e pass = front_within p run rest other more is.stops (sym is.text_is ∙ e) pass

-- a text begins with exactly one run
pub one_run : (p : ℕ → Bool) (run rest other more : List ℕ) → list_all p run ≡ true → Stops p rest → list_all p other
    ≡ true → Stops p more → run ++ rest ≡ other ++ more → (run ≡ other) × (rest ≡ more)
one_run p [] rest [] more pass stops also halts e = (refl, e)
one_run p [] [] (c ∷ other) more pass stops also halts e = absurd (cc e)
one_run p [] (b ∷ rest) (c ∷ other) more pass stops also halts e =
    let same : b ≡ c = cc e in
    let here : p c ≡ false = rw (← same) stops in
    absurd (cc ((and_parts (p c) (list_all p other) also).0, here))
one_run p (b ∷ run) rest [] [] pass stops also halts e = absurd (cc e)
one_run p (b ∷ run) rest [] (c ∷ more) pass stops also halts e =
    let same : b ≡ c = cc e in
    let here : p b ≡ false = rw same halts in
    absurd (cc ((and_parts (p b) (list_all p run) pass).0, here))
one_run p (b ∷ run) rest (c ∷ other) more pass stops also halts e =
    let heads : b ≡ c = cc e in
    let tails : run ++ rest ≡ other ++ more = cc e in
    let ih = one_run p run rest other more (and_parts (p b) (list_all p run) pass).1 stops
    (and_parts (p c) (list_all p other) also).1 halts tails in
    (cc (heads, ih.0), ih.1)
