-- From the mask of a vector to the number of bytes at the front that pass a test.
use Rattle.std.proofs.Common.{◌≡◌, ℕ, ◌+◌, ◌%◌, ◌^◌, ◌<◌, ◌≤◌, eqb, Bool, true, false, not, cond, List, [], ◌∷◌, map}
use Rattle.std.proofs.Common.{◌-◌, ◌*◌, ◌/◌, suc, subst, length, drop, get_or, Fits, w8, refl, sym, ap, ap₂, ◌∙◌, arith}
use Rattle.std.proofs.Common.{inl, inr}
use Rattle.std.proofs.lemmas.Bool.{agree_below, agree_below_at, cases_lt, eq-eqb, ne_eqb, cases_eq, cond-true}
use Rattle.std.proofs.lemmas.Bool.{cond-false, lt-leb}
use Rattle.std.proofs.lemmas.Simd.{map-map, mask_l-mod, length-chunk, chunk-drop, chunk-fits, leading_from_mask_l}
use Rattle.std.proofs.lemmas.Simd.{swz_l, trailing_mask_l, get_or-chunk}
use mir.Val.{zeroes}
use Rattle.std.proofs.lemmas.List.{length-map}
use Rattle.std.proofs.lemmas.List.Folds.{prefix_len-append}
use Rattle.std.proofs.lemmas.List.Sums.{prefix_len-le-length, prefix_len_passes}
use Rattle.std.specs.List.{prefix_len}
use lib.Bits.{bit_and, bit_or}
use lib.Lanes.{chunk, zip2, mask_l, top, Each1}
use Rattle.byte_text.specs.Lanes.{first_set}

zip2-map : (h : ℕ → ℕ → ℕ) (f g : ℕ → ℕ) (v : List ℕ) → zip2 h (map f v) (map g v) ≡ map (λ x. h (f x) (g x)) v
zip2-map h f g [] = refl
zip2-map h f g (x ∷ xs) = ap (λ r. h (f x) (g x) ∷ r) (zip2-map h f g xs)

-- the disjunction of two vectors that were computed lane by lane from v
pub either : (f g : ℕ → ℕ) (v : List ℕ) {a b : List ℕ} → a ≡ map f v → b ≡ map g v
    → zip2 bit_or a b ≡ map (λ x. bit_or (f x) (g x)) v
either f g v p q = ap₂ (zip2 bit_or) p q ∙ zip2-map bit_or f g v

-- their conjunction
pub both : (f g : ℕ → ℕ) (v : List ℕ) {a b : List ℕ} → a ≡ map f v → b ≡ map g v
    → zip2 bit_and a b ≡ map (λ x. bit_and (f x) (g x)) v
both f g v p q = ap₂ (zip2 bit_and) p q ∙ zip2-map bit_and f g v

-- a vector with one that was computed lane by lane from it
pub zip2-self : (h : ℕ → ℕ → ℕ) (g : ℕ → ℕ) (v : List ℕ) → zip2 h v (map g v) ≡ map (λ x. h x (g x)) v
zip2-self h g [] = refl
zip2-self h g (x ∷ xs) = ap (λ r. h x (g x) ∷ r) (zip2-self h g xs)

-- one lane of a table of 16, at an index that was computed from the lane x
at_lane : (table : List ℕ) (g : ℕ → ℕ) (i x : ℕ) → i < 16 → g x < 16
    → cond (zeroes 16 w8 (g x)) 0 (get_or table (16 * (i / 16) + g x) 0) ≡ get_or table (g x) 0
at_lane table g i x lt small = cond-false _ _ _ (lt-leb 128 (g x) (omega arith))
    ∙ ap (λ k. get_or table k 0) (omega arith)

-- the lanes of a table of 16 at indices that were computed lane by lane from v
pub looked_up : (table : List ℕ) (g : ℕ → ℕ) (i : ℕ) (v : List ℕ) → i + length v ≤ 16 → ((x : ℕ) → g x < 16)
    → swz_l w8 16 table i (map g v) ≡ map (λ x. get_or table (g x) 0) v
looked_up table g i [] few small = refl
looked_up table g i (x ∷ xs) few small = ap₂ (λ b r. b ∷ r) (at_lane table g i x (omega arith) (small x))
    (looked_up table g (suc i) xs (omega arith) small)

-- a test of each byte, and the lanes that stop where it fails
same_run : (s q : ℕ → Bool) → agree_below (λ x. not (s x)) q 256 ≡ true → (v : List ℕ) → Each1 (Fits w8) v
    → prefix_len (λ x. not (s x)) v ≡ prefix_len q v
same_run s q all [] fits = refl
same_run s q all (x ∷ xs) fits = ap₂ (λ b n. cond b (1 + n) 0)
    (agree_below_at (λ y. not (s y)) q 256 x all fits.0.fits) (same_run s q all xs fits.1)

first_is : (p : ℕ → Bool) (v : List ℕ) (n : ℕ) → length v ≡ n → n ≤ 64
    → first_set (mask_l (map p v)) n ≡ prefix_len (λ x. not (p x)) v
first_is p v n long few = elim (cases_eq (mask_l (map p v)) 0) [
  | inl none ↦ cond-true _ _ _ (eq-eqb _ _ none) ∙ sym (leading_from_mask_l p v none ∙ long)
  | inr some ↦ cond-false _ _ _ (ne_eqb _ _ some) ∙ trailing_mask_l p 64 v (omega arith) (omega arith)
]

-- the lanes z were computed from n bytes at i and stop exactly where q fails, so r bytes pass
pub lanes_run : (q : ℕ → Bool) (d : List ℕ) (i n r : ℕ) (f : ℕ → ℕ) (z : List ℕ) → i + n ≤ length d → n ≤ 64
    → ((k : ℕ) → Fits w8 (get_or d k 0)) → z ≡ map f (chunk i n d)
    → agree_below (λ x. not (top 7 (f x))) q 256 ≡ true → r ≡ first_set (mask_l (map (top 7) z) % 2 ^ 64) n
    → r ≡ prefix_len q (chunk i n d)
lanes_run q d i n r f z room few fits lanes all found =
    let v = chunk i n d in
    let s : ℕ → Bool = λ x. top 7 (f x) in
    let long : length v ≡ n = length-chunk i n d room in
    let mask = ap (λ l. mask_l l % 2 ^ 64) (ap (map (top 7)) lanes ∙ map-map (top 7) f v)
    ∙ mask_l-mod (map s v) 64 (omega (arith, length-map v s, long)) in
    found ∙ ap (λ m. first_set m n) mask ∙ first_is s v n long few ∙ same_run s q all v (chunk-fits w8 i n d fits)

split : (q : ℕ → Bool) (d : List ℕ) (i n : ℕ) → prefix_len q (drop i d)
    ≡ cond (eqb (prefix_len q (chunk i n d)) (length (chunk i n d)))
    (length (chunk i n d) + prefix_len q (drop (i + n) d)) (prefix_len q (chunk i n d))
split q d i n = ap (prefix_len q) (chunk-drop i n d) ∙ prefix_len-append q (chunk i n d) (drop (i + n) d)

mask_from : (p : ℕ → Bool) (x : ℕ) (xs : List ℕ) (t : Bool)
    → cond (not t) (1 + prefix_len (λ y. not (p y)) xs) 0 ≡ length (x ∷ xs)
    → (prefix_len (λ y. not (p y)) xs ≡ length xs → mask_l (map p xs) ≡ 0) → cond t 1 0 + 2 * mask_l (map p xs) ≡ 0
mask_from p x xs true whole none = absurd (omega arith)
mask_from p x xs false whole none = rw (none (omega arith)) refl

-- no lane stops
mask_none : (p : ℕ → Bool) (v : List ℕ) → prefix_len (λ x. not (p x)) v ≡ length v → mask_l (map p v) ≡ 0
mask_none p [] whole = refl
mask_none p (x ∷ xs) whole = mask_from p x xs (p x) whole (mask_none p xs)

-- the lanes z were computed from n bytes at i and stop exactly where q fails; one of them stops, so one byte fails
pub lanes_stop : (q : ℕ → Bool) (d : List ℕ) (i n : ℕ) (f : ℕ → ℕ) (z : List ℕ) → i + n ≤ length d → n ≤ 64
    → ((k : ℕ) → Fits w8 (get_or d k 0)) → z ≡ map f (chunk i n d)
    → agree_below (λ x. not (top 7 (f x))) q 256 ≡ true → (mask_l (map (top 7) z) % 2 ^ 64 ≡ 0 → ⊥)
    → prefix_len q (chunk i n d) < n
lanes_stop q d i n f z room few fits lanes all some =
    let v = chunk i n d in
    let s : ℕ → Bool = λ x. top 7 (f x) in
    let long : length v ≡ n = length-chunk i n d room in
    let mask : mask_l (map (top 7) z) % 2 ^ 64 ≡ mask_l (map s v)
    = ap (λ l. mask_l l % 2 ^ 64) (ap (map (top 7)) lanes ∙ map-map (top 7) f v)
    ∙ mask_l-mod (map s v) 64 (omega (arith, length-map v s, long)) in
    let same = same_run s q all v (chunk-fits w8 i n d fits) in
    elim (cases_lt (prefix_len q v) n) [
      | inl part ↦ part
      | inr whole ↦ absurd (some (mask ∙ mask_none s v (omega (arith, same, long, whole, prefix_len-le-length q v))))
    ]

-- all n bytes at i pass
pub run_through : (q : ℕ → Bool) (d : List ℕ) (i n : ℕ) → i + n ≤ length d → prefix_len q (chunk i n d) ≡ n
    → prefix_len q (drop i d) ≡ n + prefix_len q (drop (i + n) d)
run_through q d i n room whole =
    let long : length (chunk i n d) ≡ n = length-chunk i n d room in
    split q d i n ∙ cond-true _ _ _ (eq-eqb _ _ (whole ∙ sym long)) ∙ ap (λ k. k + prefix_len q (drop (i + n) d)) long

-- one of the n bytes at i fails
pub run_stops : (q : ℕ → Bool) (d : List ℕ) (i n : ℕ) → i + n ≤ length d → prefix_len q (chunk i n d) < n
    → prefix_len q (drop i d) ≡ prefix_len q (chunk i n d)
run_stops q d i n room part =
    let long : length (chunk i n d) ≡ n = length-chunk i n d room in
    split q d i n ∙ cond-false _ _ _ (ne_eqb _ _ (λ (e : prefix_len q (chunk i n d) ≡ length (chunk i n d)).
    omega (arith, e, long)))

pub run_bound : (q : ℕ → Bool) (d : List ℕ) (i n : ℕ) → i + n ≤ length d → prefix_len q (chunk i n d) ≤ n
run_bound q d i n room = omega (arith, prefix_len-le-length q (chunk i n d), length-chunk i n d room)

-- all n bytes at i pass, one by one
pub chunk_passes : (q : ℕ → Bool) (d : List ℕ) (i n : ℕ) → prefix_len q (chunk i n d) ≡ n → (k : ℕ) → i ≤ k
    → k < i + n → q (get_or d k 0) ≡ true
chunk_passes q d i n whole k from to =
    let there : i + (k - i) ≡ k = omega arith in
    let at = get_or-chunk i n d (k - i) 0 (omega arith) ∙ ap (λ j. get_or d j 0) there in
    subst (λ x. q x ≡ true) at (prefix_len_passes q (chunk i n d) (k - i) 0 (omega (arith, whole)))
