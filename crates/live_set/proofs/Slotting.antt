-- A load that is put in its slot among ascending loads, and the binary search for that slot.
use Rattle.live_set.proofs.Kit.{◌≡◌, ℕ, zero, suc, ◌<◌, ◌≤◌, Bool, true, false, cond, List, [], ◌∷◌, ◌++◌, length}
use Rattle.live_set.proofs.Kit.{get_or, take, drop, set, insert, filter, find, Some, None, Ordering, Less, Equal}
use Rattle.live_set.proofs.Kit.{Greater, refl, sym, ap, ◌∙◌, subst, arith, inl, inr, AllByRecursion, is_lt, cases_lt}
use Rattle.live_set.proofs.Kit.{alike_right, LoadValue, is_for, SetValue, order_of, is_before, with_slot, Rises, probe}
use Rattle.live_set.proofs.Kit.{IsAt, ◌+◌, length-append}
use Rattle.std.proofs.Common.{Result, Ok, Err, IfOk, IfErr, ap₂}
use Rattle.std.specs.List.Sorted.{IsStrictlySortedBy, IsNonDecreasingBy, IsSearchInRange, IsBinarySearchResult}
use Rattle.std.specs.Ordering.{ordering_index}
use Rattle.std.proofs.lemmas.Cmp.{tied_back}
use Rattle.std.proofs.lemmas.List.Kept.{IsStrictlySortedBy-filter}
use Rattle.std.proofs.lemmas.Map.Keys.{sorted_head, sorted_tail, Less-from_sorted}
use Rattle.live_set.specs.Slots.{IsGapFor}
use Rattle.live_set.proofs.Order.{total, flipped, rises_with, tied_for, not_for, beside, less_ne, greater_ne}

-- ---- the search

comparisons_rise : (held : List LoadValue) (a : LoadValue) → Rises held
    → IsNonDecreasingBy (λ y. ordering_index (order_of y a)) held
comparisons_rise held a rises i j d le inside =
    elim (cases_lt i j) [
      | inl lt ↦ rises_with (get_or held i d) (get_or held j d) a (Less-from_sorted order_of held i j d rises lt inside)
      | inr ge ↦
          let same : i ≡ j = omega (arith, le, ge) in
          subst (λ k. ordering_index (order_of (get_or held i d) a) ≤ ordering_index (order_of (get_or held k d) a))
          same (omega arith)
    ]

-- a binary search ends at the load for the pair, or at the gap for it
pub searched : (held : List LoadValue) (domain locale : List ℕ) (r : Result ℕ ℕ) → Rises held
    → IsSearchInRange r (length held) → IsBinarySearchResult (λ y. order_of y (probe domain locale)) held r
    → record { found : IfOk r (IsAt held domain locale); absent : IfErr r (IsGapFor held domain locale) }
searched held domain locale (Ok at) rises in_range equal = record
    { found = record { in_range = in_range; tied = λ d. equal d }; absent = tt }
searched held domain locale (Err at) rises in_range parted =
    let parts = parted (comparisons_rise held (probe domain locale) rises) in
    record {
      found = tt;
      absent = record {
        in_range = in_range;
        below = λ k d lt. parts.0 k d (omega arith) lt;
        above = λ k d le lt. parts.1 k d le lt;
      };
    }

-- the load after a smaller one, in a slot
all_at : (y : LoadValue) (ys : List LoadValue) (i : ℕ) (d : LoadValue) → AllByRecursion (λ z. order_of y z ≡ Less) ys
    → i < length ys → order_of y (get_or ys i d) ≡ Less
all_at y [] i d all lt = absurd (omega arith)
all_at y (z ∷ zs) zero d all lt = all.0
all_at y (z ∷ zs) (suc i) d all lt = all_at y zs i d all.1 (omega arith)

-- the load that ties with the pair is the one that is found
found_at : (domain locale : List ℕ) (held : List LoadValue) (i : ℕ) (d : LoadValue) → Rises held → i < length held
    → is_for domain locale (get_or held i d) ≡ true → find (is_for domain locale) held ≡ Some (get_or held i d)
found_at domain locale [] i d rises lt here = absurd (omega arith)
found_at domain locale (y ∷ ys) zero d rises lt here = ap (λ c. cond c (Some y) (find (is_for domain locale) ys)) here
found_at domain locale (y ∷ ys) (suc i) d rises lt here =
    let inside : i < length ys = omega (arith, lt) in
    let less : order_of y (probe domain locale) ≡ Less = sym (beside domain locale y (get_or ys i d) here)
    ∙ all_at y ys i d (sorted_head order_of y ys rises) inside in
    ap (λ c. cond c (Some y) (find (is_for domain locale) ys)) (not_for domain locale y Less less less_ne)
    ∙ found_at domain locale ys i d (sorted_tail order_of y ys rises) inside here

pub find_at : (held : List LoadValue) (domain locale : List ℕ) (i : ℕ) (x : LoadValue) → Rises held
    → IsAt held domain locale i → x ≡ get_or held i x → find (is_for domain locale) held ≡ Some x
find_at held domain locale i x rises at read = found_at domain locale held i x rises at.in_range
    (tied_for domain locale (get_or held i x) (at.tied x)) ∙ ap (λ l. Some l) (sym read)

none_for : (p : LoadValue → Bool) (held : List LoadValue) → ((k : ℕ) (d : LoadValue) → k < length held
    → p (get_or held k d) ≡ false) → find p held ≡ None
none_for p [] none = refl
none_for p (y ∷ ys) none = ap (λ c. cond c (Some y) (find p ys)) (none 0 y (omega arith))
    ∙ none_for p ys (λ k d lt. none (suc k) d (omega arith))

-- if there is a gap, no load is found
pub find_gap : (held : List LoadValue) (domain locale : List ℕ) (i : ℕ) → IsGapFor held domain locale i
    → find (is_for domain locale) held ≡ None
find_gap held domain locale i gap = none_for (is_for domain locale) held (λ k d lt. elim (cases_lt k i) [
  | inl before ↦ not_for domain locale (get_or held k d) Less (gap.below k d before) less_ne
  | inr from ↦ not_for domain locale (get_or held k d) Greater (gap.above k d from lt) greater_ne
])

-- the empty list ascends
pub rises_none : Rises []
unfolding IsStrictlySortedBy
rises_none = tt

-- ---- the slot

module _ (x : LoadValue) where
  abbrev before : LoadValue → Bool
  before = λ l. is_before l x

  abbrev after : LoadValue → Bool
  after = λ l. is_before x l

  abbrev IsBelow : List LoadValue → ℕ → Type 0
  IsBelow held i = (k : ℕ) (d : LoadValue) → k < i → order_of (get_or held k d) x ≡ Less

  abbrev IsAbove : List LoadValue → ℕ → Type 0
  IsAbove held i = (k : ℕ) (d : LoadValue) → i ≤ k → k < length held → order_of (get_or held k d) x ≡ Greater

  -- what a filter does with the first load
  first_before : (y : LoadValue) (ys : List LoadValue) (o : Ordering) → order_of y x ≡ o → filter before (y ∷ ys)
      ≡ cond (is_lt o) (y ∷ filter before ys) (filter before ys)
  first_before y ys o h = ap (λ r. cond (is_lt r) (y ∷ filter before ys) (filter before ys)) h

  first_after : (y : LoadValue) (ys : List LoadValue) (o : Ordering) → order_of x y ≡ o → filter after (y ∷ ys)
      ≡ cond (is_lt o) (y ∷ filter after ys) (filter after ys)
  first_after y ys o h = ap (λ r. cond (is_lt r) (y ∷ filter after ys) (filter after ys)) h

  rest_below : (y : LoadValue) (ys : List LoadValue) (i : ℕ) → IsBelow (y ∷ ys) (suc i) → IsBelow ys i
  rest_below y ys i below k d lt = below (suc k) d (omega arith)

  rest_above : (y : LoadValue) (ys : List LoadValue) (i : ℕ) → IsAbove (y ∷ ys) (suc i) → IsAbove ys i
  rest_above y ys i above k d le lt = above (suc k) d (omega arith) (omega arith)

  none_below : (ys : List LoadValue) → IsBelow ys zero
  none_below ys k d lt = absurd (omega arith)

  all_above : (y : LoadValue) (ys : List LoadValue) → IsAbove (y ∷ ys) zero → IsAbove ys zero
  all_above y ys above k d le lt = above (suc k) d (omega arith) (omega arith)

  gap_before : (held : List LoadValue) (i : ℕ) → IsBelow held i → IsAbove held i → filter before held ≡ take i held
  gap_before [] zero below above = refl
  gap_before [] (suc i) below above = refl
  gap_before (y ∷ ys) zero below above =
      first_before y ys Greater (above 0 y (omega arith) (omega arith))
      ∙ gap_before ys zero (none_below ys) (all_above y ys above)
  gap_before (y ∷ ys) (suc i) below above =
      first_before y ys Less (below 0 y (omega arith)) ∙ ap (λ t. y ∷ t)
      (gap_before ys i (rest_below y ys i below) (rest_above y ys i above))

  gap_after : (held : List LoadValue) (i : ℕ) → IsBelow held i → IsAbove held i → filter after held ≡ drop i held
  gap_after [] zero below above = refl
  gap_after [] (suc i) below above = refl
  gap_after (y ∷ ys) zero below above =
      first_after y ys Less (flipped y x Greater (above 0 y (omega arith) (omega arith)))
      ∙ ap (λ t. y ∷ t) (gap_after ys zero (none_below ys) (all_above y ys above))
  gap_after (y ∷ ys) (suc i) below above =
      first_after y ys Greater (flipped y x Less (below 0 y (omega arith)))
      ∙ gap_after ys i (rest_below y ys i below) (rest_above y ys i above)

  -- among loads that leave a gap it is inserted into the gap
  pub slotted_gap : (held : List LoadValue) (i : ℕ) → IsBelow held i → IsAbove held i
      → with_slot held x ≡ insert held i x
  slotted_gap held i below above = ap₂ (λ s t. s ++ x ∷ t) (gap_before held i below above)
      (gap_after held i below above)

  -- ---- the slot of a load that it ties with

  none_before : (ys : List LoadValue) → AllByRecursion (λ z. order_of x z ≡ Less) ys → filter before ys ≡ []
  none_before [] all = refl
  none_before (z ∷ zs) all = first_before z zs Greater (flipped x z Less all.0) ∙ none_before zs all.1

  all_after : (ys : List LoadValue) → AllByRecursion (λ z. order_of x z ≡ Less) ys → filter after ys ≡ ys
  all_after [] all = refl
  all_after (z ∷ zs) all = first_after z zs Less all.0 ∙ ap (λ t. z ∷ t) (all_after zs all.1)

  same_beside : (y : LoadValue) (ys : List LoadValue) → order_of y x ≡ Equal
      → AllByRecursion (λ z. order_of y z ≡ Less) ys → AllByRecursion (λ z. order_of x z ≡ Less) ys
  same_beside y [] tied all = tt
  same_beside y (z ∷ zs) tied all = (sym (total.congr y x z tied) ∙ all.0, same_beside y zs tied all.1)

  -- it replaces that load
  pub slotted_at : (held : List LoadValue) (i : ℕ) → Rises held → i < length held → order_of (get_or held i x) x ≡ Equal
      → with_slot held x ≡ set held i x
  slotted_at [] i rises lt tied = absurd (omega arith)
  slotted_at (y ∷ ys) zero rises lt tied =
      let greater = same_beside y ys tied (sorted_head order_of y ys rises) in
      let front : filter before (y ∷ ys) ≡ [] = first_before y ys Equal tied ∙ none_before ys greater in
      let back : filter after (y ∷ ys) ≡ ys = first_after y ys Equal (tied_back total y x tied)
      ∙ all_after ys greater in
      ap₂ (λ s t. s ++ x ∷ t) front back
  slotted_at (y ∷ ys) (suc i) rises lt tied =
      let inside : i < length ys = omega (arith, lt) in
      let less : order_of y x ≡ Less = sym (alike_right total (get_or ys i x) x y tied)
      ∙ all_at y ys i x (sorted_head order_of y ys rises) inside in
      let front : filter before (y ∷ ys) ≡ y ∷ filter before ys = first_before y ys Less less in
      let back : filter after (y ∷ ys) ≡ filter after ys = first_after y ys Greater (flipped y x Less less) in
      ap₂ (λ s t. s ++ x ∷ t) front back ∙ ap (λ t. y ∷ t) (slotted_at ys i (sorted_tail order_of y ys rises) inside
      tied)

  -- ---- the loads ascend afterwards

  passes_before : (ys : List LoadValue) → AllByRecursion (λ z. order_of z x ≡ Less) (filter before ys)
  passes_before [] = tt
  passes_before (z ∷ zs) =
      elim (order_of z x) as (λ o. order_of z x ≡ o → AllByRecursion (λ w. order_of w x ≡ Less)
      (cond (is_lt o) (z ∷ filter before zs) (filter before zs))) [
        | Less ↦ λ e. (e, passes_before zs)
        | Equal ↦ λ e. passes_before zs
        | Greater ↦ λ e. passes_before zs
      ] refl

  passes_after : (ys : List LoadValue) → AllByRecursion (λ z. order_of x z ≡ Less) (filter after ys)
  passes_after [] = tt
  passes_after (z ∷ zs) =
      elim (order_of x z) as (λ o. order_of x z ≡ o → AllByRecursion (λ w. order_of x w ≡ Less)
      (cond (is_lt o) (z ∷ filter after zs) (filter after zs))) [
        | Less ↦ λ e. (e, passes_after zs)
        | Equal ↦ λ e. passes_after zs
        | Greater ↦ λ e. passes_after zs
      ] refl

  farther : (z : LoadValue) (ys : List LoadValue) → order_of z x ≡ Less → AllByRecursion (λ w. order_of x w ≡ Less) ys
      → AllByRecursion (λ w. order_of z w ≡ Less) ys
  farther z [] lt all = tt
  farther z (w ∷ ws) lt all = (total.trans z x w lt all.0, farther z ws lt all.1)

  joined : (z : LoadValue) (xs ys : List LoadValue) → AllByRecursion (λ w. order_of z w ≡ Less) xs
      → AllByRecursion (λ w. order_of z w ≡ Less) ys → AllByRecursion (λ w. order_of z w ≡ Less) (xs ++ ys)
  joined z [] ys front back = back
  joined z (w ∷ ws) ys front back = (front.0, joined z ws ys front.1 back)

  cons_rises : (y : LoadValue) (ys : List LoadValue) → AllByRecursion (λ z. order_of y z ≡ Less) ys → Rises ys
      → Rises (y ∷ ys)
  unfolding IsStrictlySortedBy
  cons_rises y ys all rises = (all, rises)

  joined_rises : (xs ys : List LoadValue) → Rises xs → AllByRecursion (λ z. order_of z x ≡ Less) xs
      → AllByRecursion (λ z. order_of x z ≡ Less) ys → Rises ys → Rises (xs ++ x ∷ ys)
  joined_rises [] ys front lower upper back = cons_rises x ys upper back
  joined_rises (z ∷ zs) ys front lower upper back =
      cons_rises z (zs ++ x ∷ ys) (joined z zs (x ∷ ys) (sorted_head order_of z zs front)
      (lower.0, farther z ys lower.0 upper)) (joined_rises zs ys (sorted_tail order_of z zs front) lower.1 upper
      back)

  pub slotted_rises : (held : List LoadValue) → Rises held → Rises (with_slot held x)
  slotted_rises held rises =
      joined_rises (filter before held) (filter after held) (IsStrictlySortedBy-filter order_of before held rises)
      (passes_before held) (passes_after held) (IsStrictlySortedBy-filter order_of after held rises)

  -- ---- no fewer loads afterwards

  at_most_one : (held : List LoadValue) → Rises held
      → length held ≤ length (filter before held) + length (filter after held) + 1
  at_most_one [] rises = omega arith
  at_most_one (y ∷ ys) rises =
      let rest = at_most_one ys (sorted_tail order_of y ys rises) in
      elim (order_of y x) as (λ o. order_of y x ≡ o
      → length (y ∷ ys) ≤ length (filter before (y ∷ ys)) + length (filter after (y ∷ ys)) + 1) [
        | Less ↦ λ e.
            let front : filter before (y ∷ ys) ≡ y ∷ filter before ys = first_before y ys Less e in
            let back : filter after (y ∷ ys) ≡ filter after ys = first_after y ys Greater (flipped y x Less e) in
            omega (arith, rest, ap length front, ap length back)
        | Equal ↦ λ e.
            let back : filter after (y ∷ ys) ≡ ys = first_after y ys Equal (tied_back total y x e)
            ∙ all_after ys (same_beside y ys e (sorted_head order_of y ys rises)) in
            omega (arith, ap length back)
        | Greater ↦ λ e.
            let front : filter before (y ∷ ys) ≡ filter before ys = first_before y ys Greater e in
            let back : filter after (y ∷ ys) ≡ y ∷ filter after ys = first_after y ys Less (flipped y x Greater e) in
            omega (arith, rest, ap length front, ap length back)
      ] refl

  pub slotted_long : (held : List LoadValue) → Rises held → length held ≤ length (with_slot held x)
  slotted_long held rises = omega (
    arith,
    at_most_one held rises,
    length-append (filter before held) (x ∷ filter after held),
  )

  -- ---- by a search for its own domain and locale

  own : (d l : List ℕ) → d ≡ x.domain → l ≡ x.locale → (y : LoadValue) → order_of y x ≡ order_of y (probe d l)
  own d l de le y = λ i. order_of y (probe (sym de i) (sym le i))

  pub put_at : (held : List LoadValue) (d l : List ℕ) (i : ℕ) → Rises held → d ≡ x.domain → l ≡ x.locale
      → IsAt held d l i → with_slot held x ≡ set held i x
  put_at held d l i rises de le at = slotted_at held i rises at.in_range (own d l de le (get_or held i x) ∙ at.tied x)

  pub put_gap : (held : List LoadValue) (d l : List ℕ) (i : ℕ) → d ≡ x.domain → l ≡ x.locale → IsGapFor held d l i
      → with_slot held x ≡ insert held i x
  put_gap held d l i de le gap = slotted_gap held i (λ k z lt. own d l de le (get_or held k z) ∙ gap.below k z lt)
      (λ k z from lt. own d l de le (get_or held k z) ∙ gap.above k z from lt)

abbrev set_value : ℕ → List LoadValue → SetValue
set_value version held = record { version = version; held = held }

-- a set of these loads, after the load was put there
pub put_value : (x : LoadValue) (version : ℕ) (items new : List LoadValue) (s : SetValue) → set_value version items ≡ s
    → with_slot items x ≡ new → set_value version new ≡ set_value s.version (with_slot s.held x)
put_value x version items new s view is = ap (set_value version) (sym is)
    ∙ ap (λ (t : SetValue). set_value t.version (with_slot t.held x)) view
