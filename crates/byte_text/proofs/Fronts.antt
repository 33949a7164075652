-- Texts, compared with the numbers that their first bytes spell.
use Rattle.std.proofs.Common.{◌≡◌, ℕ, zero, suc, ◌+◌, ◌*◌, ◌^◌, ◌<◌, ◌≤◌, List, [], ◌∷◌, length, Ordering, refl, sym}
use Rattle.std.proofs.Common.{ap, ◌∙◌, arith, inl, inr}
use Rattle.std.specs.Prelude.{drop, slice_index, ◌≢◌}
use Rattle.std.specs.Ordering.{nat_cmp, ordering_reverse, ordering_then}
use Rattle.std.specs.declared.cmp.Ordering.TheVariants.{Less, Equal, Greater}
use Rattle.std.specs.Cmp.Lexicographic.{slice_cmp}
use Rattle.std.proofs.lemmas.Bool.{cases_lt}
use Rattle.std.proofs.Math.Nat.{mul-le-mul_right}
use Rattle.std.proofs.lemmas.Cmp.{nat_list_cmp_total, tied_itself}
use Rattle.std.specs.Cmp.{nat_cmp_is}
use Rattle.byteorder.specs.Endian.{big_from, big_number}
use Rattle.byteorder.specs.Numbers.{big_from-lt}
use Rattle.byte_text.specs.Front.{leading, HaveOneFront, IsFrontOf}

-- ---- the number after the first byte

abbrev Bytes : List ℕ → Type 0
Bytes xs = (k : ℕ) → slice_index xs k < 256

later : (i n x : ℕ) (xs : List ℕ) → big_from (suc i) n (x ∷ xs) ≡ big_from i n xs
later i zero x xs = refl
later i (suc n) x xs = ap (λ rest. slice_index xs i * 256 ^ n + rest) (later (suc i) n x xs)

empty : (i : ℕ) → slice_index [] i ≡ 0
empty zero = refl
empty (suc i) = refl

none : (i n : ℕ) → big_from i n [] ≡ 0
none i zero = refl
none i (suc n) = omega (arith, ap (λ x. x * 256 ^ n) (empty i), none (suc i) n)

bytes_behind : (x : ℕ) (xs : List ℕ) → Bytes (x ∷ xs) → Bytes xs
bytes_behind x xs h = λ k. h (suc k)

-- ---- the smaller number belongs to the smaller text

lower : (n u v : ℕ) (us vs : List ℕ) → Bytes vs → big_number (suc n) (u ∷ us) < big_number (suc n) (v ∷ vs) → u ≤ v
lower n u v us vs small lt = elim (cases_lt v u) [
  | inl over ↦
      let top : big_from 0 n vs < 256 ^ n = big_from-lt 0 n vs small in
      let step : (v + 1) * 256 ^ n ≤ u * 256 ^ n = mul-le-mul_right (256 ^ n) (omega (arith, over)) in
      absurd (omega (arith, lt, top, step, later 0 n u us, later 0 n v vs))
  | inr fits ↦ fits
]

abbrev head_then : Ordering → List ℕ → List ℕ → Ordering
head_then r us vs = ordering_then r (slice_cmp nat_cmp us vs)

behind : (n u v : ℕ) (us vs : List ℕ) → u ≡ v → big_number (suc n) (u ∷ us) < big_number (suc n) (v ∷ vs)
    → big_number n us < big_number n vs
behind n u v us vs same lt =
    let top : u * 256 ^ n ≡ v * 256 ^ n = ap (λ x. x * 256 ^ n) same in
    omega (arith, lt, top, later 0 n u us, later 0 n v vs)

less : (n : ℕ) (us vs : List ℕ) → Bytes us → Bytes vs → big_number n us < big_number n vs → slice_cmp nat_cmp us vs
    ≡ Less
less zero us vs a b lt = absurd (omega arith)
less (suc n) [] [] a b lt = absurd (omega arith)
less (suc n) [] (v ∷ vs) a b lt = refl
less (suc n) (u ∷ us) [] a b lt = absurd (omega (arith, lt, none 0 (suc n)))
less (suc n) (u ∷ us) (v ∷ vs) a b lt = elim (cases_lt u v) [
  | inl under ↦ ap (λ r. head_then r us vs) (sym (nat_cmp_is u v Less under))
  | inr fits ↦
      let same : u ≡ v = omega (arith, fits, lower n u v us vs (bytes_behind v vs b) lt) in
      ap (λ r. head_then r us vs) (sym (nat_cmp_is u v Equal same))
      ∙ less n us vs (bytes_behind u us a) (bytes_behind v vs b) (behind n u v us vs same lt)
]

-- texts with different numbers are ordered as the numbers are
pub by_fronts : (us vs : List ℕ) (m n : ℕ) → IsFrontOf us m → IsFrontOf vs n → m ≢ n → nat_cmp m n
    ≡ slice_cmp nat_cmp us vs
unfolding leading
by_fronts us vs m n a b differ = elim (cases_lt m n) [
  | inl lt ↦ sym (nat_cmp_is _ _ Less lt) ∙ sym (less 8 us vs a.bytes b.bytes (omega (arith, lt, a.number, b.number)))
  | inr fits ↦
      let gt : n < m = omega (arith, fits, differ) in
      sym (nat_cmp_is _ _ Greater gt) ∙ ap ordering_reverse (sym
      (less 8 vs us b.bytes a.bytes (omega (arith, gt, a.number, b.number))))
      ∙ sym (nat_list_cmp_total.antisymm us vs)
]

-- ---- texts with equal numbers begin with equal bytes

lesser_head : (n u v : ℕ) (us vs : List ℕ) → Bytes us → u < v
    → big_number (suc n) (u ∷ us) < big_number (suc n) (v ∷ vs)
lesser_head n u v us vs small lt =
    let top : big_from 0 n us < 256 ^ n = big_from-lt 0 n us small in
    let step : (u + 1) * 256 ^ n ≤ v * 256 ^ n = mul-le-mul_right (256 ^ n) (omega (arith, lt)) in
    omega (arith, top, step, later 0 n u us, later 0 n v vs)

same_head : (n u v : ℕ) (us vs : List ℕ) → Bytes us → Bytes vs → big_number (suc n) (u ∷ us)
    ≡ big_number (suc n) (v ∷ vs) → u ≡ v
same_head n u v us vs a b e = elim (cases_lt u v) [
  | inl lt ↦ absurd (omega (arith, e, lesser_head n u v us vs a lt))
  | inr le ↦ elim (cases_lt v u) [
    | inl lt ↦ absurd (omega (arith, e, lesser_head n v u vs us b lt))
    | inr ge ↦ omega (arith, le, ge)
  ]
]

same_behind : (n u v : ℕ) (us vs : List ℕ) → u ≡ v → big_number (suc n) (u ∷ us) ≡ big_number (suc n) (v ∷ vs)
    → big_number n us ≡ big_number n vs
same_behind n u v us vs same e =
    let top : u * 256 ^ n ≡ v * 256 ^ n = ap (λ x. x * 256 ^ n) same in
    omega (arith, e, top, later 0 n u us, later 0 n v vs)

-- if the first bytes are equal, the numbers after them order the texts
less_behind : (n m : ℕ) (us vs : List ℕ) → Bytes us → Bytes vs → big_number n us ≡ big_number n vs
    → big_number m (drop n us) < big_number m (drop n vs) → slice_cmp nat_cmp us vs ≡ Less
less_behind zero m us vs a b same lt = less m us vs a b lt
less_behind (suc n) m [] [] a b same lt = absurd (omega (arith, lt))
less_behind (suc n) m [] (v ∷ vs) a b same lt = refl
less_behind (suc n) m (u ∷ us) [] a b same lt = absurd (omega (arith, lt, none 0 m))
less_behind (suc n) m (u ∷ us) (v ∷ vs) a b same lt =
    let small = bytes_behind u us a in
    let small' = bytes_behind v vs b in
    let head : u ≡ v = same_head n u v us vs small small' same in
    ap (λ r. head_then r us vs) (sym (nat_cmp_is u v Equal head))
    ∙ less_behind n m us vs small small' (same_behind n u v us vs head same) lt

-- texts with equal fronts but different next numbers are ordered as those are
pub by_next : (us vs : List ℕ) (m n : ℕ) → HaveOneFront us vs → IsFrontOf (drop 8 us) m → IsFrontOf (drop 8 vs) n
    → m ≢ n → nat_cmp m n ≡ slice_cmp nat_cmp us vs
unfolding leading
by_next us vs m n one a b differ = elim (cases_lt m n) [
  | inl lt ↦ sym (nat_cmp_is _ _ Less lt) ∙ sym (less_behind 8 8 us vs one.bytes one.other_bytes one.number
      (omega (arith, lt, a.number, b.number)))
  | inr fits ↦
      let gt : n < m = omega (arith, fits, differ) in
      sym (nat_cmp_is _ _ Greater gt) ∙ ap ordering_reverse (sym
      (less_behind 8 8 vs us one.other_bytes one.bytes (sym one.number) (omega (arith, gt, a.number, b.number))))
      ∙ sym (nat_list_cmp_total.antisymm us vs)
]

-- ---- short texts with equal numbers are equal

one_longer : (u v : ℕ) (us vs : List ℕ) → u ≡ v → us ≡ vs → u ∷ us ≡ v ∷ vs
one_longer u v us vs e f = cc

same_short : (n : ℕ) (us vs : List ℕ) → Bytes us → Bytes vs → length us ≡ length vs → length us ≤ n → big_number n us
    ≡ big_number n vs → us ≡ vs
same_short n [] [] a b lens fits e = refl
same_short n [] (v ∷ vs) a b lens fits e = absurd (omega (arith, lens))
same_short n (u ∷ us) [] a b lens fits e = absurd (omega (arith, lens))
same_short zero (u ∷ us) (v ∷ vs) a b lens fits e = absurd (omega (arith, fits))
same_short (suc n) (u ∷ us) (v ∷ vs) a b lens fits e =
    let small = bytes_behind u us a in
    let small' = bytes_behind v vs b in
    let head : u ≡ v = same_head n u v us vs small small' e in
    one_longer u v us vs head (same_short n us vs small small' (omega (arith, lens)) (omega (arith, fits))
    (same_behind n u v us vs head e))

-- texts of equal fronts and lengths, no longer than a front, are equal
pub by_lengths : (us vs : List ℕ) (m n : ℕ) → IsFrontOf us m → IsFrontOf vs n → m ≡ n → length us ≡ length vs
    → length us ≤ 8 → us ≡ vs
unfolding leading
by_lengths us vs m n a b same lens fits = same_short 8 us vs a.bytes b.bytes lens fits (sym a.number ∙ same ∙ b.number)

pub tie_by_lengths : (us vs : List ℕ) (m n : ℕ) → IsFrontOf us m → IsFrontOf vs n → m ≡ n → length us ≡ length vs
    → length us ≤ 8 → slice_cmp nat_cmp us vs ≡ Equal
tie_by_lengths us vs m n a b same lens fits = ap (slice_cmp nat_cmp us) (sym (by_lengths us vs m n a b same lens fits))
    ∙ tied_itself nat_list_cmp_total us
