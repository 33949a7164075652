-- Steps of one length through a prime number of places: no place is met twice.
use Rattle.std.proofs.Common.{◌≡◌, ◌≢◌, ℕ, zero, suc, ◌+◌, ◌-◌, ◌*◌, ◌/◌, ◌%◌, ◌<◌, ◌≤◌, refl}
use Rattle.std.proofs.Common.{sym, ap, ◌∙◌, subst, arith, inl, inr}
use Prim.Native.Nat.{◌∣◌}
use Rattle.std.specs.Prelude.{nat_lt, if◌then◌else◌, Bool, true, false, IsTrue, ◌↔◌}
use Rattle.std.proofs.lemmas.Bool.{cases_lt, ltb-true, ltb-false}
use Rattle.std.proofs.Math.Nat.{le_of_dvd, dvd-mul_right, dvd-mul_right_of_dvd, dvd-add_iff_left, dvd-sub}
use Rattle.std.proofs.Math.Nat.{mod-lt, mod-add-div, div-add-mod, add-mul, mul_right_comm}
use Rattle.mo_dependent.specs.Hashing.{IsPrime, IsHashSize, least_size}

-- a prime divides no product of two smaller numbers: if it divides a * b, it divides (p % a) * b
no_product : (p b : ℕ) → IsPrime p → 0 < b → b < p → (most a : ℕ) → a ≤ most → 0 < a → a < p → p ∣ a * b → ⊥
no_product p b prime some small zero a le pos lt d = omega (arith, le, pos)
no_product p b prime some small (suc most) zero le pos lt d = omega (arith, pos)
no_product p b prime some small (suc most) (suc zero) le pos lt d =
    let is : 1 * b ≡ b = omega arith in
    let below : p ≤ b = le_of_dvd some (subst (λ n. p ∣ n) is d) in
    omega (arith, below, small)
no_product p b prime some small (suc most) (suc (suc n)) le pos lt d =
    let a = suc (suc n) in
    let rest : p % a ≢ 0 = prime.undivided a (omega arith) lt in
    let below : p % a < a = mod-lt p pos in
    let split : (p % a) * b + (a * (p / a)) * b ≡ p * b = sym (add-mul (p % a) (a * (p / a)) b)
    ∙ ap (λ k. k * b) (mod-add-div p a) in
    let whole : p ∣ (p % a) * b + (a * (p / a)) * b = subst (λ k. p ∣ k) (sym split) (dvd-mul_right p b) in
    let part : p ∣ (a * (p / a)) * b = subst (λ k. p ∣ k) (sym (mul_right_comm a (p / a) b))
    (dvd-mul_right_of_dvd p d (p / a)) in
    no_product p b prime some small most (p % a) (omega (arith, below, le)) (omega (arith, rest))
    (omega (arith, below, lt)) ((dvd-add_iff_left p part).1 whole)

pub apart : (p c h i j : ℕ) → IsPrime p → 0 < c → c < p → i < j → j < p → (h + i * c) % p ≡ (h + j * c) % p → ⊥
apart p c h i j prime some small lt within same =
    let x = h + i * c in
    let e = j - i in
    let is : j ≡ i + e = omega (arith, lt) in
    let more : h + j * c ≡ x + e * c = ap (λ k. h + k * c) is ∙ ap (λ k. h + k) (add-mul i e c) ∙ omega arith in
    let there : (x + e * c) % p ≡ x % p = sym (same ∙ ap (λ k. k % p) more) in
    let whole = div-add-mod (x + e * c) p in
    let part = div-add-mod x p in
    let product : p * ((x + e * c) / p) - p * (x / p) ≡ e * c = omega (arith, whole, part, there) in
    no_product p c prime some small e e (omega arith) (omega (arith, lt)) (omega (arith, within))
    (subst (λ k. p ∣ k) product (dvd-sub p (dvd-mul_right p ((x + e * c) / p)) (dvd-mul_right p (x / p))))

-- there is one size
pub one_size : (messages a b : ℕ) → IsHashSize messages a → IsHashSize messages b → a ≡ b
one_size messages a b ha hb =
    elim (cases_lt a b) [
      | inl lt ↦ absurd (hb.first a ha.enough lt ha.prime)
      | inr le ↦ elim (cases_lt b a) [
        | inl lt ↦ absurd (ha.first b hb.enough lt hb.prime)
        | inr ge ↦ omega (arith, le, ge)
      ]
    ]

-- which is more than the messages
least_more : (m : ℕ) → m < least_size m
least_more m = elim (nat_lt m 2) as (λ b. nat_lt m 2 ≡ b
    → m < (if b then 3 else if nat_lt m 4 then 5 else m * 4 / 3)) [
      | true ↦ λ e. omega (arith, ltb-true m 2 e)
      | false ↦ λ e. elim (nat_lt m 4) as (λ b. nat_lt m 4 ≡ b → m < (if b then 5 else m * 4 / 3)) [
        | true ↦ λ f. omega (arith, ltb-true m 4 f)
        | false ↦ λ f. omega (arith, ltb-false m 4 f)
      ] refl
    ] refl

pub more_slots : (messages size : ℕ) → IsHashSize messages size → messages < size
more_slots messages size h = omega (arith, least_more messages, h.enough)

least_above_2 : (m : ℕ) → 2 < least_size m
least_above_2 m = elim (nat_lt m 2) as (λ b. 2 < (if b then 3 else if nat_lt m 4 then 5 else m * 4 / 3)) [
  | true ↦ omega arith
  | false ↦ elim (nat_lt m 4) as (λ b. nat_lt m 4 ≡ b → 2 < (if b then 5 else m * 4 / 3)) [
    | true ↦ λ f. omega arith
    | false ↦ λ f. omega (arith, ltb-false m 4 f)
  ] refl
]

pub size_above_2 : (messages size : ℕ) → IsHashSize messages size → 2 < size
size_above_2 messages size h = omega (arith, least_above_2 messages, h.enough)

pub true_and_false : (b : Bool) → IsTrue b → b ≡ false → ⊥
true_and_false b is not = absurd (cc (is, not))

pub not_prime : (b : Bool) (size n : ℕ) → (IsTrue b ↔ IsPrime size) → b ≡ false → n ≡ size → IsPrime n → ⊥
not_prime b size n is not same prime = true_and_false b (is.1 (subst IsPrime same prime)) not
