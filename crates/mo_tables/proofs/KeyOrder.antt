-- The order of two keys, by the first offset where they differ.
use Rattle.mo_tables.proofs.Kit.{◌≡◌, ◌≢◌, ◌↔◌, ℕ, zero, suc, ◌+◌, ◌<◌, ◌≤◌, List, [], ◌∷◌, take, drop, get_or, cond}
use Rattle.mo_tables.proofs.Kit.{eqb, Bool, true, false, ◌-◌, ◌*◌, length, min, None, inl, inr, refl, sym, ap, ◌∙◌}
use Rattle.mo_tables.proofs.Kit.{arith, eqb-true, eq-eqb, cases_lt, position_or_len, nat_cmp, Less, slice_cmp}
use Rattle.mo_tables.proofs.Kit.{get_or-drop, IsFirstByte, is_byte, before_nul, part, AreAlike, IsAlike}
use Rattle.std.proofs.Common.{not, ◌/◌, ◌%◌, max}
use Rattle.std.specs.Ordering.{ordering_then}
use Rattle.std.specs.declared.cmp.Ordering.TheVariants.{Equal, Greater}
use Rattle.std.specs.Cmp.{nat_cmp_is}
use Rattle.std.proofs.lemmas.Cmp.{nat_cmp_total, tied_itself}
use Rattle.std.specs.Str.{bytes_eq}
use Rattle.std.proofs.lemmas.Nat.{div-add-mod'}
use Rattle.std.proofs.Math.Nat.{suc-mul}
use Rattle.std.proofs.lemmas.List.{take_rest}
use Rattle.std.proofs.lemmas.Slice.Eq.{bytes_eq-Decides}
use Rattle.mo_tables.specs.declared.claims.Alike.{Alike}
use Rattle.mo_tables.specs.Claims.{EndsThere, key_from}
use Rattle.mo_tables.proofs.Cuts.{is}
use Rattle.mo_tables.proofs.PartLemmas.{length-part}
use Rattle.mo_tables.proofs.GapLemmas.{byte_in_part}

not_true : (b : Bool) → (b ≡ true → ⊥) → b ≡ false
not_true true h = absurd (h refl)
not_true false h = refl

pub key_by : (x : ℕ) (xs : List ℕ) (b : Bool) → eqb x 0 ≡ b → before_nul (x ∷ xs) ≡ cond b [] (x ∷ before_nul xs)
key_by x xs true e = ap (λ b. take (cond (not b) (1 + position_or_len (is 0) xs) 0) (x ∷ xs)) e
key_by x xs false e =
    let n : 1 + position_or_len (is 0) xs ≡ suc (position_or_len (is 0) xs) = omega arith in
    ap (λ b. take (cond (not b) (1 + position_or_len (is 0) xs) 0) (x ∷ xs)) e ∙ ap (λ k. take k (x ∷ xs)) n

-- a key ends at its NUL
with_nul_by : (x : ℕ) (xs : List ℕ) (n : ℕ) → before_nul xs ≡ before_nul (take n xs) → (b : Bool) → eqb x 0 ≡ b
    → before_nul (x ∷ xs) ≡ before_nul (x ∷ take n xs)
with_nul_by x xs n rest true e = key_by x xs true e ∙ sym (key_by x (take n xs) true e)
with_nul_by x xs n rest false e = key_by x xs false e ∙ ap (λ k. x ∷ k) rest ∙ sym (key_by x (take n xs) false e)

pub key_with_nul : (text : List ℕ) (n : ℕ) → n < length text → get_or text n 0 ≡ 0 → before_nul text
    ≡ before_nul (take n text)
key_with_nul [] n lt nul = absurd (omega (arith, lt))
key_with_nul (x ∷ xs) zero lt nul = key_by x xs true (eq-eqb x 0 nul)
key_with_nul (x ∷ xs) (suc n) lt nul = with_nul_by x xs n (key_with_nul xs n (omega (arith, lt)) nul) (eqb x 0) refl

-- ---- keys that differ at their first byte

data Front (text : List ℕ) : Type 0 where
  Ends : get_or text 0 0 ≡ 0 → before_nul text ≡ [] → Front text
  GoesOn : (rest : List ℕ) → get_or text 0 0 ≢ 0 → before_nul text ≡ get_or text 0 0 ∷ rest → Front text

front_by : (x : ℕ) (xs : List ℕ) → (b : Bool) → eqb x 0 ≡ b → Front (x ∷ xs)
front_by x xs true e = Ends (eqb-true x 0 e) (key_by x xs true e)
front_by x xs false e = GoesOn (before_nul xs) (λ zero_is. let yes : eqb x 0 ≡ true = eq-eqb x 0 zero_is in absurd cc)
    (key_by x xs false e)

front : (text : List ℕ) → Front text
front [] = Ends refl refl
front (x ∷ xs) = front_by x xs (eqb x 0) refl

less_ne_equal : Equal ≡ Less → ⊥
less_ne_equal e = cc

less_ne_greater : Greater ≡ Less → ⊥
less_ne_greater e = cc

abbrev pub IsBelow : List ℕ → List ℕ → Type 0
IsBelow a b = slice_cmp nat_cmp a b ≡ Less

heads : (x y : ℕ) (a b : List ℕ) → x ≢ y → IsBelow (x ∷ a) (y ∷ b) ↔ (x < y)
heads x y a b differ = elim (cases_lt x y) [
  | inl lt ↦
      let c : Less ≡ nat_cmp x y = nat_cmp_is x y Less lt in
      (λ below. lt, λ less. ap (λ o. ordering_then o (slice_cmp nat_cmp a b)) (sym c))
  | inr ge ↦
      let c : Greater ≡ nat_cmp x y = nat_cmp_is x y Greater (omega (arith, ge, differ)) in (
        λ below. absurd (less_ne_greater (ap (λ o. ordering_then o (slice_cmp nat_cmp a b)) c ∙ below)),
        λ less. absurd (omega (arith, ge, less)),
      )
]

by_fronts : (a b : List ℕ) → Front a → Front b → (get_or a 0 0 ≡ get_or b 0 0 → get_or a 0 0 ≡ 0)
    → IsBelow (before_nul a) (before_nul b) ↔ (get_or a 0 0 < get_or b 0 0)
by_fronts a b (Ends x none) (Ends y empty) differ = (
  λ below. absurd (less_ne_equal (ap (λ k. slice_cmp nat_cmp k []) (sym none)
      ∙ ap (slice_cmp nat_cmp (before_nul a)) (sym empty) ∙ below)),
  λ less. absurd (omega (arith, x, y, less)),
)
by_fronts a b (Ends x none) (GoesOn rest y some) differ = (
  λ below. omega (arith, x, y),
  λ less. ap (λ k. slice_cmp nat_cmp k (before_nul b)) none ∙ ap (slice_cmp nat_cmp []) some,
)
by_fronts a b (GoesOn rest x some) (Ends y empty) differ = (
  λ below. absurd (less_ne_greater (ap (λ k. slice_cmp nat_cmp k []) (sym some)
      ∙ ap (slice_cmp nat_cmp (before_nul a)) (sym empty) ∙ below)),
  λ less. absurd (omega (arith, y, less)),
)
by_fronts a b (GoesOn rest x some) (GoesOn more y others) differ =
    let same : slice_cmp nat_cmp (before_nul a) (before_nul b)
    ≡ slice_cmp nat_cmp (get_or a 0 0 ∷ rest) (get_or b 0 0 ∷ more) =
    ap (λ k. slice_cmp nat_cmp k (before_nul b)) some ∙ ap (slice_cmp nat_cmp (get_or a 0 0 ∷ rest)) others in
    let both = heads (get_or a 0 0) (get_or b 0 0) rest more (λ e. x (differ e)) in
    (λ below. both.0 (sym same ∙ below), λ less. same ∙ both.1 less)

at_once : (a b : List ℕ) → (get_or a 0 0 ≡ get_or b 0 0 → get_or a 0 0 ≡ 0)
    → IsBelow (before_nul a) (before_nul b) ↔ (get_or a 0 0 < get_or b 0 0)
at_once a b differ = by_fronts a b (front a) (front b) differ

-- ---- keys that differ later

key_goes_on : (x : ℕ) (xs : List ℕ) → x ≢ 0 → before_nul (x ∷ xs) ≡ x ∷ before_nul xs
key_goes_on x xs more = key_by x xs false (not_true (eqb x 0) (λ e. more (eqb-true x 0 e)))

one_further : (x y : ℕ) (a b : List ℕ) → x ≡ y → x ≢ 0 → slice_cmp nat_cmp (before_nul (x ∷ a)) (before_nul (y ∷ b))
    ≡ slice_cmp nat_cmp (before_nul a) (before_nul b)
one_further x y a b same more =
    let first : before_nul (y ∷ b) ≡ x ∷ before_nul b = key_goes_on y b (λ e. more (same ∙ e)) ∙ ap (λ z. z
    ∷ before_nul b) (sym same) in
    ap (λ k. slice_cmp nat_cmp k (before_nul (y ∷ b))) (key_goes_on x a more)
    ∙ ap (slice_cmp nat_cmp (x ∷ before_nul a)) first
    ∙ ap (λ o. ordering_then o (slice_cmp nat_cmp (before_nul a) (before_nul b))) (tied_itself nat_cmp_total x)

-- two texts share n bytes, none of them NUL, and then differ or both have NUL: their keys compare as these bytes do
pub below_at : (a b : List ℕ) (n : ℕ) → AreAlike a b n → (get_or a n 0 ≡ get_or b n 0 → get_or a n 0 ≡ 0)
    → IsBelow (before_nul a) (before_nul b) ↔ (get_or a n 0 < get_or b n 0)
below_at a b zero alike differ = at_once a b differ
below_at [] b (suc n) alike differ = absurd ((alike 0 (omega arith)).1 refl)
below_at (x ∷ a) [] (suc n) alike differ =
    let first = alike 0 (omega arith) in
    absurd (first.1 first.0)
below_at (x ∷ a) (y ∷ b) (suc n) alike differ =
    let first = alike 0 (omega arith) in
    let same = one_further x y a b first.0 first.1 in
    let later = below_at a b n (λ i lt. alike (suc i) (omega (arith, lt))) differ in
    (λ below. later.0 (sym same ∙ below), λ less. same ∙ later.1 less)

-- ---- one more chunk

yes : (b : Bool) → false ≡ not b → b ≡ true
yes true e = refl
yes false e = absurd cc

pub one_chunk : (a b : List ℕ) (start size : ℕ) → start + size ≤ length a → start + size ≤ length b → AreAlike a b start
    → false ≡ not (bytes_eq (part a start (start + size)) (part b start (start + size)))
    → IsFirstByte (is_byte 0) (part a start (start + size)) None → AreAlike a b (start + size)
one_chunk a b start size within inside alike same none i lt = elim (cases_lt i start) [
  | inl before ↦ alike i before
  | inr behind ↦
      let n : start + (i - start) ≡ i = omega (arith, behind) in
      let there : (text : List ℕ) → get_or (part text start (start + size)) (i - start) 0 ≡ get_or text i 0 =
      λ text. byte_in_part text start (start + size) (i - start) (omega (arith, behind, lt))
      ∙ ap (λ k. get_or text k 0) n in
      let equal : part a start (start + size) ≡ part b start (start + size) =
      (bytes_eq-Decides (part a start (start + size)) (part b start (start + size))).0 (yes _ same) in (
        sym (there a) ∙ ap (λ l. get_or l (i - start) 0) equal ∙ there b,
        λ nul. none (i - start) (omega arith)
            (omega (arith, behind, lt, length-part a start (start + size) (omega arith) within))
            (eq-eqb _ 0 (there a ∙ nul)),
      )
]

-- ---- a part that grows

pub more_alike : (bytes : List ℕ) (a : Alike) (limit more : ℕ) → IsAlike bytes a → a.to + more ≤ limit
    → a.to + a.distance + more ≤ length bytes
    → AreAlike (part bytes a.to limit) (part bytes (a.to + a.distance) (length bytes)) more
    → IsAlike bytes (record { distance = a.distance; from = a.from; to = a.to + more })
more_alike bytes a limit more is inside within alike = record {
  rises = omega (arith, is.rises);
  within = omega (arith, within);
  alike = λ i le lt. elim (cases_lt i a.to) [
    | inl before ↦ is.alike i le before
    | inr behind ↦
        let n : a.to + (i - a.to) ≡ i = omega (arith, behind) in
        let m : a.to + a.distance + (i - a.to) ≡ i + a.distance = omega (arith, behind) in
        let here : get_or (part bytes a.to limit) (i - a.to) 0 ≡ get_or bytes i 0 =
        byte_in_part bytes a.to limit (i - a.to) (omega (arith, behind, lt, inside)) ∙ ap (λ k. get_or bytes k 0) n in
        let there : get_or (part bytes (a.to + a.distance) (length bytes)) (i - a.to) 0
        ≡ get_or bytes (i + a.distance) 0 =
        byte_in_part bytes (a.to + a.distance) (length bytes) (i - a.to) (omega (arith, behind, lt, within))
        ∙ ap (λ k. get_or bytes k 0) m in
        let both = alike (i - a.to) (omega (arith, behind, lt)) in
        (sym here ∙ both.0 ∙ there, λ nul. both.1 (here ∙ nul))
  ];
}

-- past the end of a text there is nothing
pub at_end : (bytes : List ℕ) (start i : ℕ) → get_or (part bytes start (length bytes)) i 0 ≡ get_or bytes (start + i) 0
at_end bytes start i = ap (λ l. get_or l i 0) (take_rest bytes start) ∙ get_or-drop start bytes i 0

-- where a part ends that grew to the end of the file
pub ends_there : (bytes : List ℕ) (a : Alike) (limit more : ℕ) → limit ≡ length bytes
    → (get_or (part bytes a.to limit) more 0 ≡ get_or (part bytes (a.to + a.distance) (length bytes)) more 0
    → get_or (part bytes a.to limit) more 0 ≡ 0)
    → EndsThere bytes (record { distance = a.distance; from = a.from; to = a.to + more })
ends_there bytes a limit more all stops same =
    let whole : get_or (part bytes a.to limit) more 0 ≡ get_or bytes (a.to + more) 0 =
    ap (λ k. get_or (part bytes a.to k) more 0) all ∙ at_end bytes a.to more in
    let n : a.to + a.distance + more ≡ a.to + more + a.distance = omega arith in
    let other : get_or (part bytes (a.to + a.distance) (length bytes)) more 0
    ≡ get_or bytes (a.to + more + a.distance) 0 =
    at_end bytes (a.to + a.distance) more ∙ ap (λ k. get_or bytes k 0) n in
    sym whole ∙ stops (whole ∙ same ∙ sym other)

-- ---- one claim

abbrev pub KeyBelow : List ℕ → ℕ → ℕ → Type 0
KeyBelow bytes a b = IsBelow (key_from bytes a) (key_from bytes b)

shifted : (bytes : List ℕ) (start i offset : ℕ) → start + i ≡ offset → get_or (drop start bytes) i 0
    ≡ get_or bytes offset 0
shifted bytes start i offset at = get_or-drop start bytes i 0 ∙ ap (λ k. get_or bytes k 0) at

module _ (bytes : List ℕ) (a : Alike) (is : IsAlike bytes a) (low high : ℕ) (at : low + a.distance
    ≡ high) (from : a.from ≤ low)
    (to : low ≤ a.to) (differ : get_or bytes a.to 0 ≡ get_or bytes (a.to + a.distance) 0 → get_or bytes a.to 0
    ≡ 0) where
  here : (i : ℕ) → get_or (drop low bytes) i 0 ≡ get_or bytes (low + i) 0
  here i = shifted bytes low i (low + i) refl

  there : (i : ℕ) → get_or (drop high bytes) i 0 ≡ get_or bytes (low + i + a.distance) 0
  there i = shifted bytes high i (low + i + a.distance) (omega (arith, at))

  n : a.to - low + low ≡ a.to
  n = omega (arith, to)

  end_here : get_or (drop low bytes) (a.to - low) 0 ≡ get_or bytes a.to 0
  end_here = shifted bytes low (a.to - low) a.to (omega (arith, to))

  end_there : get_or (drop high bytes) (a.to - low) 0 ≡ get_or bytes (a.to + a.distance) 0
  end_there = shifted bytes high (a.to - low) (a.to + a.distance) (omega (arith, to, at))

  -- the claim is that the first key is the lesser
  pub rising : KeyBelow bytes low high
      ↔ (get_or bytes a.to 0 < get_or bytes (a.to + a.distance) 0)
  rising =
      let both = below_at (drop low bytes) (drop high bytes) (a.to - low)
      (λ i lt.
      let alike = is.alike (low + i) (omega (arith, from)) (omega (arith, lt)) in
      (here i ∙ alike.0 ∙ sym (there i), λ nul. alike.1 (sym (here i) ∙ nul)))
      (λ same. end_here ∙ differ (sym end_here ∙ same ∙ end_there)) in (
        λ holds. omega (arith, both.0 holds, end_here, end_there),
        λ less. both.1 (omega
            (arith, less, end_here, end_there)),
      )

  -- the claim is that the second key is the lesser
  pub falling : KeyBelow bytes high low
      ↔ (get_or bytes (a.to + a.distance) 0 < get_or bytes a.to 0)
  falling =
      let both = below_at (drop high bytes) (drop low bytes) (a.to - low)
      (λ i lt.
      let alike = is.alike (low + i) (omega (arith, from)) (omega (arith, lt)) in
      (there i ∙ sym alike.0 ∙ sym (here i), λ nul. alike.1 (alike.0 ∙ sym (there i) ∙ nul)))
      (λ same.
      let nul : get_or bytes a.to 0 ≡ 0 = differ (sym end_here ∙ sym same ∙ end_there) in
      same ∙ end_here ∙ nul) in (
        λ holds. omega (arith, both.0 holds, end_here, end_there),
        λ less. both.1 (omega
            (arith, less, end_here, end_there)),
      )

-- whether a claim holds, by the bytes at which its keys end or differ
pub decided : (bytes : List ℕ) (a : Alike) → IsAlike bytes a → (lesser greater offset : ℕ) → offset ≡ min lesser greater
    → offset + a.distance ≡ max lesser greater → a.from ≤ offset → offset ≤ a.to
    → (get_or bytes a.to 0 ≡ get_or bytes (a.to + a.distance) 0 → get_or bytes a.to 0 ≡ 0)
    → KeyBelow bytes lesser greater
    ↔ (get_or bytes (lesser + (a.to - offset)) 0 < get_or bytes (greater + (a.to - offset)) 0)
decided bytes a is lesser greater offset low distance from to differ = elim (cases_lt lesser greater) [
  | inl lt ↦
      let x : lesser + (a.to - offset) ≡ a.to = omega (arith, low, lt, to) in
      let y : greater + (a.to - offset) ≡ a.to + a.distance = omega (arith, low, lt, to, distance) in
      let one = rising bytes a is lesser greater (omega (arith, low, lt, distance)) (omega (arith, low, lt, from))
      (omega (arith, low, lt, to)) differ in
      let l = ap (λ k. get_or bytes k 0) x in
      let g = ap (λ k. get_or bytes k 0) y in
      (λ holds. omega (arith, one.0 holds, l, g), λ less. one.1 (omega (arith, less, l, g)))
  | inr ge ↦
      let x : lesser + (a.to - offset) ≡ a.to + a.distance = omega (arith, low, ge, to, distance) in
      let y : greater + (a.to - offset) ≡ a.to = omega (arith, low, ge, to) in
      let one = falling bytes a is greater lesser (omega (arith, low, ge, distance)) (omega (arith, low, ge, from))
      (omega (arith, low, ge, to)) differ in
      let l = ap (λ k. get_or bytes k 0) x in
      let g = ap (λ k. get_or bytes k 0) y in
      (λ holds. omega (arith, one.0 holds, l, g), λ less. one.1 (omega (arith, less, l, g)))
]

-- ---- a text that repeats itself at one distance does so at each multiple

multiple : (bytes : List ℕ) (a : Alike) (is : IsAlike bytes a) (m i : ℕ) → a.from ≤ i
    → i + suc m * a.distance < a.to + a.distance
    → (get_or bytes i 0 ≡ get_or bytes (i + suc m * a.distance) 0) × (get_or bytes i 0 ≢ 0)
multiple bytes a is zero i le lt =
    let one : suc zero * a.distance ≡ a.distance = omega (arith, suc-mul zero a.distance) in
    let here = is.alike i le (omega (arith, lt, one)) in
    (here.0 ∙ ap (λ d. get_or bytes (i + d) 0) (sym one), here.1)
multiple bytes a is (suc m) i le lt =
    let more : suc (suc m) * a.distance ≡ suc m * a.distance + a.distance = suc-mul (suc m) a.distance in
    let here = is.alike i le (omega (arith, lt, more, suc-mul m a.distance)) in
    let there = multiple bytes a is m (i + a.distance) (omega (arith, le)) (omega (arith, lt, more)) in
    let at : i + a.distance + suc m * a.distance ≡ i + suc (suc m) * a.distance = omega (arith, more) in
    (here.0 ∙ there.0 ∙ ap (λ k. get_or bytes k 0) at, here.1)

pub at_each_multiple : (bytes : List ℕ) (a : Alike) → IsAlike bytes a → (distance to : ℕ) → 0 < a.distance
    → distance % a.distance ≡ 0 → a.distance ≤ distance → to + distance ≡ a.to + a.distance → a.from ≤ to
    → IsAlike bytes (record { distance = distance; from = a.from; to = to })
at_each_multiple bytes a is distance to some divides long behind rises =
    let n : ℕ = distance / a.distance in
    let whole : distance / a.distance * a.distance ≡ distance = omega
    (arith, div-add-mod' distance a.distance, divides) in
    steps (distance / a.distance) whole
  where
    steps : (n : ℕ) → n * a.distance ≡ distance → IsAlike bytes (record { distance = distance; from = a.from; to = to })
    steps zero whole = absurd (omega (arith, whole, some, long))
    steps (suc m) whole = record {
      rises = rises;
      within = omega (arith, behind, is.within);
      alike = λ i le lt.
          let both = multiple bytes a is m i le (omega (arith, whole, behind, lt)) in
          (both.0 ∙ ap (λ d. get_or bytes (i + d) 0) whole, both.1);
    }

-- two parts at one distance that meet
pub both_alike : (bytes : List ℕ) (a b : Alike) → IsAlike bytes a → IsAlike bytes b → b.distance ≡ a.distance
    → b.from ≤ a.to → a.to ≤ b.to → IsAlike bytes (record { distance = a.distance; from = a.from; to = b.to })
both_alike bytes a b is other same meets le = record {
  rises = omega (arith, is.rises, le);
  within = omega (arith, other.within, same);
  alike = λ i from lt. elim (cases_lt i a.to) [
    | inl before ↦ is.alike i from before
    | inr behind ↦
        let there = other.alike i (omega (arith, meets, behind)) lt in
        (there.0 ∙ ap (λ d. get_or bytes (i + d) 0) same, there.1)
  ];
}

-- what follows a text that repeats itself
pub behind_alike : (bytes : List ℕ) (a b : Alike) → IsAlike bytes a → IsAlike bytes b → (distance from to : ℕ)
    → a.distance + b.distance ≡ distance → from ≡ max b.from (a.from - b.distance) → from ≤ to → to ≤ b.to
    → to + b.distance ≤ a.to → IsAlike bytes (record { distance = distance; from = from; to = to })
behind_alike bytes a b is repeats distance from to sum begins rises most within = record {
  rises = rises;
  within = omega (arith, is.within, sum, within);
  alike = λ i le lt.
      let one = repeats.alike i (omega (arith, begins, le)) (omega (arith, most, lt)) in
      let two = is.alike (i + b.distance) (omega (arith, begins, le)) (omega (arith, within, lt)) in
      let at : i + b.distance + a.distance ≡ i + distance = omega (arith, sum) in
      (one.0 ∙ two.0 ∙ ap (λ k. get_or bytes k 0) at, one.1);
}

-- a text that is repeated at two distances repeats itself at their difference
pub between_alike : (bytes : List ℕ) (a b : Alike) → IsAlike bytes a → IsAlike bytes b → (distance from to : ℕ)
    → distance + b.distance ≡ a.distance → from ≡ max a.from (b.from - distance) → from ≤ to → to ≤ a.to
    → to + distance ≤ b.to → IsAlike bytes (record { distance = distance; from = from; to = to })
between_alike bytes a b is nearer distance from to sum begins rises most within = record {
  rises = rises;
  within = omega (arith, nearer.within, within);
  alike = λ i le lt.
      let one = is.alike i (omega (arith, begins, le)) (omega (arith, most, lt)) in
      let two = nearer.alike (i + distance) (omega (arith, begins, le)) (omega (arith, within, lt)) in
      let at : i + a.distance ≡ i + distance + b.distance = omega (arith, sum) in
      (one.0 ∙ ap (λ k. get_or bytes k 0) at ∙ sym two.0, one.1);
}
