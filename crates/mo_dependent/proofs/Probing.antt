-- A free slot is found: a string tries all slots, and they aren't all taken.
use Rattle.std.proofs.Common.{◌≡◌, ◌≢◌, ℕ, zero, suc, ◌+◌, ◌-◌, ◌*◌, ◌%◌, ◌<◌, ◌≤◌, List, length, set, get_or}
use Rattle.std.proofs.Common.{replicate, refl, sym, ap, ◌∙◌, subst, arith}
use Rattle.std.specs.Prelude.{slice_index}
use Rattle.std.proofs.lemmas.List.{length-set, get_or-set_other}
use Rattle.std.proofs.lemmas.List.Sums.{sum_by-set, sum_by-cons}
use Rattle.std.proofs.Math.Nat.{mod-lt}
use Rattle.mo_dependent.specs.Hashing.{IsPrime, probe, taken_count, one_if_taken}
use Rattle.mo_dependent.proofs.Primes.{apart}

one_from : (n : ℕ) → n ≢ 0 → one_if_taken n ≡ 1
one_from zero ne = absurd (ne refl)
one_from (suc n) ne = refl

one_at_most : (n : ℕ) → one_if_taken n ≤ 1
one_at_most zero = omega arith
one_at_most (suc n) = omega arith

pub none_taken : (n : ℕ) → taken_count (replicate n 0) ≡ 0
none_taken zero = refl
none_taken (suc n) = omega (arith, sum_by-cons one_if_taken 0 (replicate n 0), none_taken n)

pub one_more_taken : (slots : List ℕ) (slot n : ℕ) → slot < length slots
    → taken_count (set slots slot n) ≤ taken_count slots + 1
one_more_taken slots slot n lt =
    omega (arith, sum_by-set one_if_taken slots slot n 0 lt, one_at_most n)

module _ (slots : List ℕ) (h : ℕ) (prime : IsPrime (length slots)) (some : 2 < length slots)
    (all : (k : ℕ) → k < length slots → slice_index slots (probe (length slots) h k) ≢ 0) where
  abbrev size : ℕ
  size = length slots

  abbrev at : ℕ → ℕ
  at k = probe size h k

  step_small : 1 + h % (size - 2) < size
  step_small =
      let below : h % (size - 2) < size - 2 = mod-lt h (omega (arith, some)) in
      omega (arith, below, some)

  -- the slots, with the first k that are tried made free
  abbrev cleared : ℕ → List ℕ
  cleared zero = slots
  cleared (suc k) = set (cleared k) (at k) 0

  length-cleared : (k : ℕ) → length (cleared k) ≡ size
  length-cleared zero = refl
  length-cleared (suc k) = length-set (cleared k) (at k) 0 ∙ length-cleared k

  kept : (k j : ℕ) → k ≤ j → j < size → get_or (cleared k) (at j) 0 ≡ get_or slots (at j) 0
  kept zero j le lt = refl
  kept (suc k) j le lt =
      let other : at j ≢ at k = λ same. apart size (1 + h % (size - 2)) h k j prime (omega arith) step_small
      (omega (arith, le)) lt (sym same) in
      get_or-set_other (cleared k) (at k) (at j) 0 0 other ∙ kept k j (omega (arith, le)) lt

  counted : (k : ℕ) → k ≤ size → taken_count (cleared k) + k ≡ taken_count slots
  counted zero le = omega arith
  counted (suc k) le =
      let within : at k < length (cleared k) = subst (λ n. at k < n) (sym (length-cleared k))
      (mod-lt (h + k * (1 + h % (size - 2))) (omega (arith, some))) in
      let one : one_if_taken (get_or (cleared k) (at k) 0) ≡ 1 = ap one_if_taken (kept k k (omega arith)
      (omega (arith, le))) ∙ one_from (get_or slots (at k) 0) (all k (omega (arith, le))) in
      omega (
        arith,
        sum_by-set one_if_taken (cleared k) (at k) 0 0 within,
        one,
        counted k (omega (arith, le)),
      )

  pub all_taken : length slots ≤ taken_count slots
  all_taken = omega (arith, counted size (omega arith))
