-- The exchange that adds a batch keeps the rule of the book.
use Rattle.std.proofs.Common.{◌≡◌, ℕ, ◌+◌, ◌<◌, ◌^◌, ◌==◌, Bool, true, false, List, [], ◌∷◌, ◌++◌, length, refl, ap}
use Rattle.std.proofs.Common.{sym, subst, ◌∙◌, arith, inl, None}
use Rattle.std.proofs.lemmas.List.{append-nil}
use Rattle.std.proofs.lemmas.Bool.Decides.{nat_tests}
use mathlib.Core.List.{IsPrefix}
use prog.Atomic.{either}
use Rattle.logbook.specs.Pages.{Cell, cell, keeps, no_nib, step, Moves, Goes}
use Rattle.live_set.specs.Loads.{LoadValue}
use Rattle.live_loads.specs.Batches.{version_of, NoneEmpty}
use Rattle.live_versions.specs.Book.{KeepsBatches, AddsBatch}
use Rattle.live_loads.proofs.Joining.{whole, full_add, version-add}

abbrev Batches : Type 0
Batches = List (List LoadValue)

abbrev pub shown : Batches → Batches
shown log = []

abbrev pub moved : Batches → Batches → ℕ → Type 0
moved xs ys n = Unit {0}

adds_goes : (log v : Batches) (e a : List LoadValue) (old : ℕ) → version_of v ≡ old → 0 < length e
    → old + length e < 2 ^ 64 → NoneEmpty log → version_of log < 2 ^ 64 → IsPrefix v log
    → (b : Bool) → (version_of log == old) ≡ b
    → Goes KeepsBatches shown moved 0 (v, (no_nib, None)) (λ n. either (n == old) (old + length e) n)
    (AddsBatch e (step 0 old (old + length e) a) (v, (no_nib, None))) ((version_of log, true) ∷ (0, true) ∷ []) log
adds_goes log v e a old len some room full fits pre true is =
    let here : version_of log ≡ old = grind (arith, nat_tests) in
    let same : log ≡ v = whole log v full (pre.0, sym pre.1) (here ∙ sym len) in
    let more : version_of (log ++ e ∷ []) ≡ version_of log + length e = version-add log e in
    let n : either (version_of log == old) (old + length e) (version_of log)
    ≡ version_of (log ++ e ∷ []) = rw is (omega (arith, more, here)) in (
      keeps,
      e ∷ [],
      None,
      tt,
      record {
        words = ap (λ (k : ℕ). (k, true) ∷ (0, true) ∷ []) n;
        full = full_add log e full some;
        fits = omega
            (arith, more, here, room);
      },
      inl (refl, refl),
      (λ found. ap (λ (w : Batches). w ++ e ∷ []) same),
    )
adds_goes log v e a old len some room full fits pre false is =
    let all : log ++ [] ≡ log = append-nil log in
    let n : either (version_of log == old) (old + length e) (version_of log)
    ≡ version_of (log ++ []) = rw is (ap version_of (sym all)) in (
      keeps,
      [],
      None,
      tt,
      record {
        words = ap (λ (k : ℕ). (k, true) ∷ (0, true) ∷ []) n;
        full = subst NoneEmpty (sym all) full;
        fits = subst
            (λ (w : Batches). version_of w < 2 ^ 64) (sym all) fits;
      },
      inl (refl, refl),
      (λ (found : version_of log ≡ old). absurd (grind (arith, nat_tests, is, found))),
    )

pub adds_moves : (v : Batches) (e a : List LoadValue) (old : ℕ) → version_of v ≡ old → 0 < length e
    → old + length e < 2 ^ 64
    → Moves KeepsBatches shown moved 0 (v, (no_nib, None)) (λ n. either (n == old) (old + length e) n)
    (AddsBatch e (step 0 old (old + length e) a) (v, (no_nib, None)))
adds_moves v e a old len some room cs log kept pre away =
    let P : List Cell → Type 0 = λ c. (0 < length c) × ((cell c 0).1 ≡ true)
    × Goes KeepsBatches shown moved 0 (v, (no_nib, None)) (λ n. either (n == old) (old + length e) n)
    (AddsBatch e (step 0 old (old + length e) a) (v, (no_nib, None))) c log in
    subst P (sym kept.words) (
      omega arith,
      refl,
      adds_goes log v e a old len some room kept.full kept.fits pre
          (version_of log == old) refl,
    )
