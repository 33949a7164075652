-- Loads in consecutive runs: the run where a load belongs, and finding and inserting a load there.
use Rattle.live_set.proofs.Kit.{◌≡◌, ℕ, zero, suc, ◌+◌, ◌-◌, ◌<◌, ◌≤◌, Bool, true, false, cond, List, [], ◌∷◌, ◌++◌}
use Rattle.live_set.proofs.Kit.{length, get_or, take, drop, set, insert, filter, find, flat_map, Option, Some, None}
use Rattle.live_set.proofs.Kit.{Ordering, Less, Equal, Greater, refl, sym, ap, ◌∙◌, subst, arith, inl, inr}
use Rattle.live_set.proofs.Kit.{AllByRecursion, is_lt, false≢true, alike_right, append-nil, LoadValue}
use Rattle.live_set.proofs.Kit.{is_for, order_of, is_before, with_slot, Rises, probe}
use Rattle.std.proofs.Common.{Result, Ok, Err, MatchResult, ap₂, min, length-append}
use Rattle.std.specs.List.Sorted.{IsStrictlySortedBy, IsPartitionedBy, IsPartitionPoint}
use Rattle.std.specs.Option.{SomeIff}
use Rattle.std.specs.Ordering.{is_le}
use Rattle.std.proofs.lemmas.Bool.{cases_Bool}
use Rattle.std.proofs.lemmas.List.{append_assoc, take-append-drop}
use Rattle.std.proofs.lemmas.List.Concat.{flat_map-append}
use Rattle.std.proofs.lemmas.List.Elements.{filter-append}
use Rattle.std.proofs.lemmas.Map.Keys.{sorted_head, sorted_tail}
use Rattle.live_set.specs.LoadRuns.{begins_by, begun_count, IsCut, IsInRuns}
use Rattle.live_set.proofs.Slotting.{slotted_rises, slotted_long}
use Rattle.live_set.proofs.Order.{total, flipped, not_for, less_ne, greater_ne}

-- ---- facts of each element

module _ {X : Type 0} (P : X → Type 0) where
  all_front : (xs ys : List X) → AllByRecursion P (xs ++ ys) → AllByRecursion P xs
  all_front [] ys all = tt
  all_front (x ∷ xs) ys all = (all.0, all_front xs ys all.1)

  all_back : (xs ys : List X) → AllByRecursion P (xs ++ ys) → AllByRecursion P ys
  all_back [] ys all = all
  all_back (x ∷ xs) ys all = all_back xs ys all.1

  all_get : (xs : List X) (i : ℕ) (d : X) → AllByRecursion P xs → i < length xs → P (get_or xs i d)
  all_get [] i d all lt = absurd (omega arith)
  all_get (x ∷ xs) zero d all lt = all.0
  all_get (x ∷ xs) (suc i) d all lt = all_get xs i d all.1 (omega arith)

  pub all_set : (xs : List X) (i : ℕ) (x : X) → P x → AllByRecursion P xs → AllByRecursion P (set xs i x)
  all_set [] i x p all = tt
  all_set (y ∷ ys) zero x p all = (p, all.1)
  all_set (y ∷ ys) (suc i) x p all = (all.0, all_set ys i x p all.1)

  pub all_insert : (xs : List X) (i : ℕ) (x : X) → P x → AllByRecursion P xs → AllByRecursion P (insert xs i x)
  all_insert xs zero x p all = (p, all)
  all_insert [] (suc i) x p all = (p, tt)
  all_insert (y ∷ ys) (suc i) x p all = (all.0, all_insert ys i x p all.1)

-- ---- ascending loads, cut in parts

pub rises_front : (xs ys : List LoadValue) → Rises (xs ++ ys) → Rises xs
unfolding IsStrictlySortedBy
rises_front [] ys rises = tt
rises_front (x ∷ xs) ys rises = (
  all_front (λ y. order_of x y ≡ Less) xs ys (sorted_head order_of x (xs ++ ys) rises),
  rises_front xs ys (sorted_tail order_of x (xs ++ ys) rises),
)

pub rises_back : (xs ys : List LoadValue) → Rises (xs ++ ys) → Rises ys
rises_back [] ys rises = rises
rises_back (x ∷ xs) ys rises = rises_back xs ys (sorted_tail order_of x (xs ++ ys) rises)

-- each of the loads is before this one; each of them is after it
abbrev AllBefore : LoadValue → List LoadValue → Type 0
AllBefore x xs = AllByRecursion (λ l. order_of l x ≡ Less) xs

abbrev AllBehind : LoadValue → List LoadValue → Type 0
AllBehind x xs = AllByRecursion (λ l. order_of l x ≡ Greater) xs

-- what is before a load that isn't after x is before x
before_by : (x y z : LoadValue) → order_of y z ≡ Less → is_le (order_of z x) ≡ true → order_of y x ≡ Less
before_by x y z lt le =
    elim (order_of z x) as (λ o. order_of z x ≡ o → is_le o ≡ true → order_of y x ≡ Less) [
      | Less ↦ λ e _. total.trans y z x lt e
      | Equal ↦ λ e _. sym (alike_right total z x y e) ∙ lt
      | Greater ↦ λ e is. absurd (false≢true is)
    ] refl le

all_before : (x y : LoadValue) (xs ys : List LoadValue) → Rises (xs ++ y ∷ ys) → is_le (order_of y x) ≡ true
    → AllBefore x xs
all_before x y [] ys rises le = tt
all_before x y (z ∷ zs) ys rises le =
    let rest = sorted_head order_of z (zs ++ y ∷ ys) rises in
    let less : order_of z y ≡ Less = (all_back (λ l. order_of z l ≡ Less) zs (y ∷ ys) rest).0 in
    (before_by x z y less le, all_before x y zs ys (sorted_tail order_of z (zs ++ y ∷ ys) rises) le)

behind_by : (x y : LoadValue) (ys : List LoadValue) → order_of y x ≡ Greater
    → AllByRecursion (λ z. order_of y z ≡ Less) ys → AllBehind x ys
behind_by x y [] gt all = tt
behind_by x y (z ∷ zs) gt all =
    (flipped x z Less (total.trans x y z (flipped y x Greater gt) all.0), behind_by x y zs gt all.1)

all_behind : (x y : LoadValue) (ys : List LoadValue) → Rises (y ∷ ys) → order_of y x ≡ Greater → AllBehind x (y ∷ ys)
all_behind x y ys rises gt = (gt, behind_by x y ys gt (sorted_head order_of y ys rises))

-- ---- between loads that are before it and loads that are after it

not_before : (x : LoadValue) (xs : List LoadValue) → AllBehind x xs → filter (λ l. is_before l x) xs ≡ []
not_before x [] all = refl
not_before x (z ∷ zs) all =
    ap (λ o. cond (is_lt o) (z ∷ filter (λ l. is_before l x) zs) (filter (λ l. is_before l x) zs)) all.0
    ∙ not_before x zs all.1

is_behind : (x : LoadValue) (xs : List LoadValue) → AllBehind x xs → filter (λ l. is_before x l) xs ≡ xs
is_behind x [] all = refl
is_behind x (z ∷ zs) all =
    ap (λ o. cond (is_lt o) (z ∷ filter (λ l. is_before x l) zs) (filter (λ l. is_before x l) zs))
    (flipped z x Greater all.0) ∙ ap (λ t. z ∷ t) (is_behind x zs all.1)

all_kept : (x : LoadValue) (xs : List LoadValue) → AllBefore x xs → filter (λ l. is_before l x) xs ≡ xs
all_kept x [] all = refl
all_kept x (z ∷ zs) all =
    ap (λ o. cond (is_lt o) (z ∷ filter (λ l. is_before l x) zs) (filter (λ l. is_before l x) zs)) all.0
    ∙ ap (λ t. z ∷ t) (all_kept x zs all.1)

none_behind : (x : LoadValue) (xs : List LoadValue) → AllBefore x xs → filter (λ l. is_before x l) xs ≡ []
none_behind x [] all = refl
none_behind x (z ∷ zs) all =
    ap (λ o. cond (is_lt o) (z ∷ filter (λ l. is_before x l) zs) (filter (λ l. is_before x l) zs))
    (flipped z x Less all.0) ∙ none_behind x zs all.1

-- a load is inserted between them as it would be on its own
pub slotted_between : (x : LoadValue) (a r b : List LoadValue) → AllBefore x a → AllBehind x b
    → with_slot (a ++ (r ++ b)) x ≡ a ++ (with_slot r x ++ b)
slotted_between x a r b lower upper =
    let p = λ (l : LoadValue). is_before l x in
    let q = λ (l : LoadValue). is_before x l in
    let front : filter p (a ++ (r ++ b)) ≡ a ++ filter p r = filter-append p a (r ++ b)
    ∙ ap₂ (λ s t. s ++ t) (all_kept x a lower) (filter-append p r b ∙ ap (λ t. filter p r ++ t) (not_before x b upper)
    ∙ append-nil (filter p r)) in
    let back : filter q (a ++ (r ++ b)) ≡ filter q r ++ b = filter-append q a (r ++ b)
    ∙ ap₂ (λ s t. s ++ t) (none_behind x a lower) (filter-append q r b ∙ ap (λ t. filter q r ++ t)
    (is_behind x b upper)) in
    ap₂ (λ s t. s ++ x ∷ t) front back ∙ append_assoc a (filter p r) (x ∷ (filter q r ++ b))
    ∙ ap (λ t. a ++ t) (sym (append_assoc (filter p r) (x ∷ filter q r) b))

find_past : (domain locale : List ℕ) (o : Ordering) (xs ys : List LoadValue) → (o ≡ Equal → ⊥)
    → AllByRecursion (λ l. order_of l (probe domain locale) ≡ o) xs
    → find (is_for domain locale) (xs ++ ys) ≡ find (is_for domain locale) ys
find_past domain locale o [] ys ne all = refl
find_past domain locale o (z ∷ zs) ys ne all =
    ap (λ c. cond c (Some z) (find (is_for domain locale) (zs ++ ys))) (not_for domain locale z o all.0 ne)
    ∙ find_past domain locale o zs ys ne all.1

find_front : (p : LoadValue → Bool) (xs ys : List LoadValue) → find p ys ≡ None → find p (xs ++ ys) ≡ find p xs
find_front p [] ys none = none
find_front p (z ∷ zs) ys none = ap (cond (p z) (Some z)) (find_front p zs ys none)

-- a load is found between them as it would be on its own
pub find_between : (domain locale : List ℕ) (a r b : List LoadValue) → AllBefore (probe domain locale) a
    → AllBehind (probe domain locale) b
    → find (is_for domain locale) (a ++ (r ++ b)) ≡ find (is_for domain locale) r
find_between domain locale a r b lower upper =
    let p = is_for domain locale in
    let none : find p b ≡ None = ap (find p) (sym (append-nil b))
    ∙ find_past domain locale Greater b [] greater_ne upper in
    find_past domain locale Less a (r ++ b) less_ne lower ∙ find_front p r b none

-- ---- runs

module _ {R : Type 0} (of : R → List LoadValue) where
  abbrev joined : List R → List LoadValue
  joined runs = flat_map of runs

  abbrev HasEach : List R → Type 0
  HasEach runs = AllByRecursion (λ r. 0 < length (of r)) runs

  -- the runs about one of them
  pub joined_at : (runs : List R) (i : ℕ) (d : R) → i < length runs → joined runs
      ≡ joined (take i runs) ++ (of (get_or runs i d) ++ joined (drop (suc i) runs))
  joined_at [] i d lt = absurd (omega arith)
  joined_at (r ∷ rs) zero d lt = refl
  joined_at (r ∷ rs) (suc i) d lt = ap (λ t. of r ++ t) (joined_at rs i d (omega arith))
      ∙ sym (append_assoc (of r) (joined (take i rs)) (of (get_or rs i d) ++ joined (drop (suc i) rs)))

  pub joined_set : (runs : List R) (i : ℕ) (s : R) → i < length runs → joined (set runs i s)
      ≡ joined (take i runs) ++ (of s ++ joined (drop (suc i) runs))
  joined_set [] i s lt = absurd (omega arith)
  joined_set (r ∷ rs) zero s lt = refl
  joined_set (r ∷ rs) (suc i) s lt = ap (λ t. of r ++ t) (joined_set rs i s (omega arith))
      ∙ sym (append_assoc (of r) (joined (take i rs)) (of s ++ joined (drop (suc i) rs)))

  -- a run in the place of one of the same loads
  joined_alike : (runs : List R) (i : ℕ) (s d : R) → i < length runs → of s ≡ of (get_or runs i d)
      → joined (set runs i s) ≡ joined runs
  joined_alike [] i s d lt is = absurd (omega arith)
  joined_alike (r ∷ rs) zero s d lt is = ap (λ t. t ++ joined rs) is
  joined_alike (r ∷ rs) (suc i) s d lt is = ap (λ t. of r ++ t) (joined_alike rs i s d (omega arith) is)

  -- a run that is split
  split_at : (runs : List R) (i : ℕ) (low up d : R) → i < length runs → of low ++ of up ≡ of (get_or runs i d)
      → joined (insert (set runs i low) (suc i) up) ≡ joined runs
  split_at [] i low up d lt is = absurd (omega arith)
  split_at (r ∷ rs) zero low up d lt is = sym (append_assoc (of low) (of up) (joined rs)) ∙ ap (λ t. t ++ joined rs) is
  split_at (r ∷ rs) (suc i) low up d lt is = ap (λ t. of r ++ t) (split_at rs i low up d (omega arith) is)

  pub joined_split : (runs : List R) (i : ℕ) (low up d : R) → i < length runs
      → of low ++ of up ≡ of (get_or runs i d) → joined (insert (set runs i low) (i + 1) up) ≡ joined runs
  joined_split runs i low up d lt is =
      let next : suc i ≡ i + 1 = omega arith in
      subst (λ n. joined (insert (set runs i low) n up) ≡ joined runs) next (split_at runs i low up d lt is)

  -- ---- the run of a pair

  module _ (domain locale : List ℕ) where
    abbrev x : LoadValue
    x = probe domain locale

    abbrev begins : R → Bool
    begins r = begins_by domain locale (of r)

    behind_greater : (o : Ordering) → is_le o ≡ false → o ≡ Greater
    behind_greater Less e = absurd (false≢true (sym e))
    behind_greater Equal e = absurd (false≢true (sym e))
    behind_greater Greater e = refl

    -- if a run begins after the pair, everything that follows is after the pair
    run_behind : (ls rest : List LoadValue) → 0 < length ls → Rises (ls ++ rest) → begins_by domain locale ls ≡ false
        → AllBehind x (ls ++ rest)
    run_behind [] rest some rises e = absurd (omega arith)
    run_behind (l ∷ ls) rest some rises e = all_behind x l (ls ++ rest) rises (behind_greater (order_of l x) e)

    begins_behind : (ls rest : List LoadValue) → 0 < length ls → AllBehind x (ls ++ rest)
        → begins_by domain locale ls ≡ false
    begins_behind [] rest some all = absurd (omega arith)
    begins_behind (l ∷ ls) rest some all = ap is_le all.0

    none_begins : (runs : List R) (i : ℕ) (d : R) → HasEach runs → AllBehind x (joined runs) → i < length runs
        → begins (get_or runs i d) ≡ false
    none_begins [] i d has all lt = absurd (omega arith)
    none_begins (r ∷ rs) zero d has all lt = begins_behind (of r) (joined rs) has.0 all
    none_begins (r ∷ rs) (suc i) d has all lt = none_begins rs i d has.1
        (all_back (λ l. order_of l x ≡ Greater) (of r) (joined rs) all) (omega arith)

    pub partitioned : (runs : List R) → HasEach runs → Rises (joined runs) → IsPartitionedBy begins runs
    partitioned [] has rises i j d le lt is = absurd (omega arith)
    partitioned (r ∷ rs) has rises zero zero d le lt is = is
    partitioned (r ∷ rs) has rises zero (suc j) d le lt is = elim (cases_Bool (begins r)) [
      | inl begun_count ↦ begun_count
      | inr not ↦
          let all = run_behind (of r) (joined rs) has.0 rises not in
          absurd (false≢true (sym (none_begins rs j d has.1
          (all_back (λ l. order_of l x ≡ Greater) (of r) (joined rs) all) (omega arith)) ∙ is))
    ]
    partitioned (r ∷ rs) has rises (suc i) zero d le lt is = absurd (omega arith)
    partitioned (r ∷ rs) has rises (suc i) (suc j) d le lt is = partitioned rs has.1
        (rises_back (of r) (joined rs) rises) i j d (omega arith) (omega arith) is

    -- the runs from the i-th on are after the pair if the i-th one isn't begun by it
    pub behind_from : (runs : List R) (i : ℕ) → HasEach runs → Rises (joined runs)
        → ((k : ℕ) (d : R) → i ≤ k → k < length runs → begins (get_or runs k d) ≡ false)
        → AllBehind x (joined (drop i runs))
    behind_from [] zero has rises not = tt
    behind_from [] (suc i) has rises not = tt
    behind_from (r ∷ rs) zero has rises not = run_behind (of r) (joined rs) has.0 rises
        (not 0 r (omega arith) (omega arith))
    behind_from (r ∷ rs) (suc i) has rises not = behind_from rs i has.1 (rises_back (of r) (joined rs) rises)
        (λ k d le lt. not (suc k) d (omega arith) (omega arith))

    -- what precedes a run that is begun by the pair is before the pair
    begun_before : (xs ls rest : List LoadValue) → Rises (xs ++ (ls ++ rest)) → begins_by domain locale ls ≡ true
        → AllBefore x xs
    begun_before xs [] rest rises is = absurd (false≢true is)
    begun_before xs (l ∷ ls) rest rises is = all_before x l xs (ls ++ rest) rises is

    pub before_run : (first : List LoadValue) (runs : List R) (i : ℕ) (d : R) → i < length runs
        → Rises (first ++ joined runs) → begins (get_or runs i d) ≡ true
        → AllBefore x (first ++ joined (take i runs))
    before_run first runs i d lt rises is =
        let whole : first ++ joined runs ≡ (first ++ joined (take i runs)) ++ (of (get_or runs i d)
        ++ joined (drop (suc i) runs)) = ap (λ t. first ++ t) (joined_at runs i d lt)
        ∙ sym (append_assoc first (joined (take i runs)) (of (get_or runs i d) ++ joined (drop (suc i) runs))) in
        begun_before (first ++ joined (take i runs)) (of (get_or runs i d)) (joined (drop (suc i) runs))
        (subst Rises whole rises) is

-- the runs up to the one before the n-th
pub begun_by : (n : ℕ) (o : Option ℕ) → SomeIff o (1 ≤ n) (n - 1) → begun_count o ≡ n
begun_by zero None is = refl
begun_by (suc n) None is = absurd (is (omega arith))
begun_by n (Some at) is = omega (arith, is.0, is.1)

-- ---- what is found in the run of a pair, and what is put there

-- the loads below a run, and those above it
abbrev pub below : {R : Type 0} → (R → List LoadValue) → List LoadValue → List R → ℕ → List LoadValue
below of first runs i = first ++ flat_map of (take i runs)

abbrev pub above : {R : Type 0} → (R → List LoadValue) → List R → ℕ → List LoadValue
above of runs i = flat_map of (drop (suc i) runs)

-- the runs that are begun by the pair end with this one
abbrev pub IsParted : {R : Type 0} → (R → List LoadValue) → List ℕ → List ℕ → List R → Option ℕ → Type 0
IsParted of domain locale runs o = IsPartitionedBy (λ r. begins_by domain locale (of r)) runs → IsPartitionPoint
    (λ r. begins_by domain locale (of r) ≡ true) (λ r. begins_by domain locale (of r) ≡ false) runs (begun_count o)

-- IsParted carries over to equal names and runs
pub parted_for : {R : Type 0} (of : R → List LoadValue) (d l : List ℕ) (seen : List R) (o : Option ℕ) (load : LoadValue)
    (runs : List R) → d ≡ load.domain → l ≡ load.locale → seen ≡ runs → IsParted of d l seen o
    → IsParted of load.domain load.locale runs o
parted_for {R = R} of d l seen o load runs ed el er parted =
    subst (λ (rs : List R). IsParted of load.domain load.locale rs o) er
    (subst (λ (m : List ℕ). IsParted of load.domain m seen o) el
    (subst (λ (n : List ℕ). IsParted of n l seen o) ed parted))

pub within : {R : Type 0} (i : ℕ) (seen runs : List R) → seen ≡ runs → i < length seen → i < length runs
within {R = R} i seen runs e lt = subst (λ (rs : List R). i < length rs) e lt

module _ {R : Type 0} (of : R → List LoadValue) (domain locale : List ℕ) (first : List LoadValue) (runs : List R)
    (rises : Rises (first ++ flat_map of runs)) (has : HasEach of runs) where
  point : (o : Option ℕ) → IsParted of domain locale runs o → IsPartitionPoint
      (λ r. begins_by domain locale (of r) ≡ true) (λ r. begins_by domain locale (of r) ≡ false) runs (begun_count o)
  point o parted = parted (partitioned of domain locale runs has (rises_back first (flat_map of runs) rises))

  -- about the first run
  pub behind_first : IsParted of domain locale runs None → AllBehind (probe domain locale) (flat_map of runs)
  behind_first parted = behind_from of domain locale runs 0 has (rises_back first (flat_map of runs) rises)
      (λ k d le lt. (point None parted).1 k d (omega arith) lt)

  pub found_first : IsParted of domain locale runs None → find (is_for domain locale) (first ++ flat_map of runs)
      ≡ find (is_for domain locale) first
  found_first parted = find_between domain locale [] first (flat_map of runs) tt (behind_first parted)

  -- about a later one
  module _ (i : ℕ) (lt : i < length runs) (parted : IsParted of domain locale runs (Some i)) (d : R) where
    abbrev run : List LoadValue
    run = of (get_or runs i d)

    abbrev lower : List LoadValue
    lower = below of first runs i

    abbrev upper : List LoadValue
    upper = above of runs i

    pub before_later : AllBefore (probe domain locale) lower
    before_later = before_run of domain locale first runs i d lt rises
        ((point (Some i) parted).0 i d (omega arith) (omega arith))

    pub behind_later : AllBehind (probe domain locale) upper
    behind_later = behind_from of domain locale runs (suc i) has (rises_back first (flat_map of runs) rises)
        (λ k d le inside. (point (Some i) parted).1 k d (omega (arith, le)) inside)

    pub about : first ++ flat_map of runs ≡ lower ++ (run ++ upper)
    about = ap (λ t. first ++ t) (joined_at of runs i d lt)
        ∙ sym (append_assoc first (flat_map of (take i runs)) (run ++ upper))

    pub later_rises : Rises run
    later_rises = rises_front run upper (rises_back lower (run ++ upper) (subst Rises about rises))

    pub found_later : find (is_for domain locale) (first ++ flat_map of runs) ≡ find (is_for domain locale) run
    found_later = ap (find (is_for domain locale)) about
        ∙ find_between domain locale lower run upper before_later behind_later

-- ---- a load is put in its run

some_between : (xs ys : List LoadValue) (x : LoadValue) → 0 < length (xs ++ x ∷ ys)
some_between [] ys x = omega arith
some_between (z ∷ zs) ys x = omega arith

-- the new loads if the result is Ok, and the old ones otherwise
abbrev pub IsPut : {A E : Type 0} → Result A E → LoadValue → (old new : List LoadValue) → Type 0
IsPut r x old new = MatchResult r (λ _. new ≡ with_slot old x) (λ _. new ≡ old)

module _ {R : Type 0} (of : R → List LoadValue) (x : LoadValue) (first : List LoadValue) (runs : List R)
    (rises : Rises (first ++ flat_map of runs)) (has : HasEach of runs) where
  slotted_first : IsParted of x.domain x.locale runs None → with_slot first x ++ flat_map of runs
      ≡ with_slot (first ++ flat_map of runs) x
  slotted_first parted = sym (slotted_between x [] first (flat_map of runs) tt
      (behind_first of x.domain x.locale first runs rises has parted))

  pub put_first : {A E : Type 0} → IsParted of x.domain x.locale runs None → (new : List LoadValue) (r : Result A E)
      → IsPut r x first new → record {
        rises : Rises (new ++ flat_map of runs);
        is : IsPut r x (first ++ flat_map of runs) (new ++ flat_map of runs);
      }
  put_first parted new (Ok a) e =
      let is : new ++ flat_map of runs ≡ with_slot (first ++ flat_map of runs) x = ap (λ l. l ++ flat_map of runs) e
      ∙ slotted_first parted in
      record { rises = subst Rises (sym is) (slotted_rises x (first ++ flat_map of runs) rises); is = is }
  put_first parted new (Err a) e =
      let is : new ++ flat_map of runs ≡ first ++ flat_map of runs = ap (λ l. l ++ flat_map of runs) e in
      record { rises = subst Rises (sym is) rises; is = is }

  module _ (i : ℕ) (lt : i < length runs) (parted : IsParted of x.domain x.locale runs (Some i)) (d : R) where
    written : (s : R) → first ++ flat_map of (set runs i s) ≡ below of first runs i ++ (of s ++ above of runs i)
    written s = ap (λ t. first ++ t) (joined_set of runs i s lt)
        ∙ sym (append_assoc first (flat_map of (take i runs)) (of s ++ above of runs i))

    split : first ++ flat_map of runs ≡ below of first runs i ++ (of (get_or runs i d) ++ above of runs i)
    split = about of x.domain x.locale first runs rises has i lt parted d

    slotted_later : below of first runs i ++ (with_slot (of (get_or runs i d)) x ++ above of runs i)
        ≡ with_slot (first ++ flat_map of runs) x
    slotted_later = sym (slotted_between x (below of first runs i) (of (get_or runs i d)) (above of runs i)
        (before_later of x.domain x.locale first runs rises has i lt parted d)
        (behind_later of x.domain x.locale first runs rises has i lt parted d)) ∙ ap (λ l. with_slot l x) (sym split)

    put_run : {A E : Type 0} → (new : R) (r : Result A E) → IsPut r x (of (get_or runs i d)) (of new)
        → record {
          rises : Rises (first ++ flat_map of (set runs i new));
          has : HasEach of (set runs i new);
          is : IsPut r x (first ++ flat_map of runs) (first ++ flat_map of (set runs i new));
        }
    put_run new (Ok a) e =
        let is : first ++ flat_map of (set runs i new) ≡ with_slot (first ++ flat_map of runs) x = written new
        ∙ ap (λ l. below of first runs i ++ (l ++ above of runs i)) e ∙ slotted_later in
        let some : 0 < length (of new) = subst (λ l. 0 < length l) (sym e)
        (some_between (filter (λ l. is_before l x) (of (get_or runs i d)))
        (filter (λ l. is_before x l) (of (get_or runs i d))) x) in
        record {
          rises = subst Rises (sym is) (slotted_rises x (first ++ flat_map of runs) rises);
          has = all_set (λ s. 0 < length (of s)) runs i new some has;
          is = is;
        }
    put_run new (Err a) e =
        let is : first ++ flat_map of (set runs i new) ≡ first ++ flat_map of runs = written new
        ∙ ap (λ l. below of first runs i ++ (l ++ above of runs i)) e ∙ sym split in
        let some : 0 < length (of new) = subst (λ l. 0 < length l) (sym e)
        (all_get (λ s. 0 < length (of s)) runs i d has lt) in
        record {
          rises = subst Rises (sym is) rises;
          has = all_set (λ s. 0 < length (of s)) runs i new some has;
          is = is;
        }

  pub put_later : {A E : Type 0} → (i : ℕ) (run new : R) (r : Result A E) → i < length runs
      → IsParted of x.domain x.locale runs (Some i) → run ≡ get_or runs i run → IsPut r x (of run) (of new) → record {
        rises : Rises (first ++ flat_map of (set runs i new));
        has : HasEach of (set runs i new);
        is : IsPut r x (first ++ flat_map of runs) (first ++ flat_map of (set runs i new));
      }
  put_later i run new r lt parted read is = put_run i lt parted run new r
      (subst (λ (s : R). IsPut r x (of s) (of new)) read is)

-- ---- the count of a list, once a load is put in one of its runs

-- a run has no fewer loads afterwards
pub grown : {A E : Type 0} (x : LoadValue) (old new : List LoadValue) (r : Result A E) → Rises old → IsPut r x old new
    → length old ≤ length new
grown x old new (Ok a) rises is = subst (λ (l : List LoadValue). length old ≤ length l) (sym is)
    (slotted_long x old rises)
grown x old new (Err a) rises is = omega (arith, ap length is)

abbrev pub IsCount : ℕ → List LoadValue → Type 0
IsCount n loads = n ≡ min (length loads) 18446744073709551615

module _ {R : Type 0} (of : R → List LoadValue) (first : List LoadValue) (runs : List R) (count before after : ℕ)
    (counted : IsCount count (first ++ flat_map of runs)) where
  pub counted_first : (new : List LoadValue) → IsCount before first → IsCount after new → length first ≤ length new
      → IsCount (min (count + (after - before)) 18446744073709551615) (new ++ flat_map of runs)
  counted_first new is_before is_after le = omega (
    arith,
    counted,
    is_before,
    is_after,
    le,
    length-append first (flat_map of runs),
    length-append new (flat_map of runs),
  )

  pub counted_later : (i : ℕ) (run new : R) → i < length runs → run ≡ get_or runs i run → IsCount before (of run)
      → IsCount after (of new) → length (of run) ≤ length (of new)
      → IsCount (min (count + (after - before)) 18446744073709551615) (first ++ flat_map of (set runs i new))
  counted_later i run new lt read is_before is_after le =
      let lower = flat_map of (take i runs) in
      let upper = flat_map of (drop (suc i) runs) in
      let was : flat_map of runs ≡ lower ++ (of run ++ upper) = joined_at of runs i run lt
      ∙ ap (λ (s : R). lower ++ (of s ++ upper)) (sym read) in
      omega (
        arith,
        counted,
        is_before,
        is_after,
        le,
        length-append first (flat_map of runs),
        ap length was,
        length-append lower (of run ++ upper),
        length-append (of run) upper,
        length-append first (flat_map of (set runs i new)),
        ap length (joined_set of runs i new lt),
        length-append lower (of new ++ upper),
        length-append (of new) upper,
      )

-- ---- a run is halved

module _ {R : Type 0} (of : R → List LoadValue) (first : List LoadValue) (runs : List R) (count : ℕ)
    (is : IsInRuns of first runs count) where
  -- runs of the same loads, none of which is empty
  again : (low : List LoadValue) (new : List R) → low ++ flat_map of new ≡ first ++ flat_map of runs → HasEach of new
      → IsInRuns of low new count
  again low new same has = record {
    rises = subst Rises (sym same) is.rises;
    has = has;
    counted = is.counted ∙ ap (λ (l : List LoadValue). min (length l) 18446744073709551615) (sym same);
  }

  -- a run has a copy of itself in its place
  pub kept_later : (i : ℕ) (run new : R) (grown : List R) → i < length runs → grown ≡ runs → run ≡ get_or grown i run
      → of new ≡ of run → record {
        same : first ++ flat_map of (set grown i new) ≡ first ++ flat_map of runs;
        inside : IsInRuns of first (set grown i new) count;
      }
  kept_later i run new grown inside is_grown read is_new =
      let at : run ≡ get_or runs i run = read ∙ ap (λ (rs : List R). get_or rs i run) is_grown in
      let alike : of new ≡ of (get_or runs i run) = is_new ∙ ap of at in
      let same : first ++ flat_map of (set grown i new) ≡ first ++ flat_map of runs =
      ap (λ (rs : List R). first ++ flat_map of (set rs i new)) is_grown
      ∙ ap (λ l. first ++ l) (joined_alike of runs i new run inside alike) in
      let some : 0 < length (of new) = subst (λ l. 0 < length l) (sym alike)
      (all_get (λ s. 0 < length (of s)) runs i run is.has inside) in
      record {
        same = same;
        inside = again first (set grown i new) same (subst (λ (rs : List R). HasEach of (set rs i new)) (sym is_grown)
            (all_set (λ s. 0 < length (of s)) runs i new some is.has));
      }

  pub halved_later : (i : ℕ) (run low up : R) (grown new : List R) → i < length runs → grown ≡ runs
      → run ≡ get_or grown i run → IsCut (of run) (of low) (of up) → new ≡ insert (set grown i low) (i + 1) up
      → record {
        same : first ++ flat_map of new ≡ first ++ flat_map of runs;
        inside : IsInRuns of first new count;
      }
  halved_later i run low up grown new inside is_grown read cut is_new =
      let at : run ≡ get_or runs i run = read ∙ ap (λ (rs : List R). get_or rs i run) is_grown in
      let whole : of low ++ of up ≡ of (get_or runs i run) = cut.joined ∙ ap of at in
      let eq : new ≡ insert (set runs i low) (i + 1) up = is_new
      ∙ ap (λ (rs : List R). insert (set rs i low) (i + 1) up) is_grown in
      let same : first ++ flat_map of new ≡ first ++ flat_map of runs = ap (λ (rs : List R). first ++ flat_map of rs) eq
      ∙ ap (λ l. first ++ l) (joined_split of runs i low up run inside whole) in
      record {
        same = same;
        inside = again first new same (subst (HasEach of) (sym eq)
            (all_insert (λ s. 0 < length (of s)) (set runs i low) (i + 1) up cut.some_upper
            (all_set (λ s. 0 < length (of s)) runs i low cut.some_lower is.has)));
      }

-- ---- a list of runs is halved

some_taken : {R : Type 0} (of : R → List LoadValue) (runs : List R) (n : ℕ) → HasEach of runs → 0 < n
    → n < length runs → 0 < length (flat_map of (take n runs))
some_taken of [] n has some lt = absurd (omega arith)
some_taken of (r ∷ rs) zero has some lt = absurd (omega (arith, some))
some_taken of (r ∷ rs) (suc n) has some lt = omega (arith, has.0, length-append (of r) (flat_map of (take n rs)))

pub some_dropped : {R : Type 0} (of : R → List LoadValue) (runs : List R) (n : ℕ) → HasEach of runs → n < length runs
    → 0 < length (flat_map of (drop n runs))
some_dropped of [] n has lt = absurd (omega arith)
some_dropped of (r ∷ rs) zero has lt = omega (arith, has.0, length-append (of r) (flat_map of rs))
some_dropped of (r ∷ rs) (suc n) has lt = some_dropped of rs n has.1 (omega (arith, lt))

module _ {R : Type 0} (of : R → List LoadValue) (first : List LoadValue) (runs : List R) (count : ℕ)
    (is : IsInRuns of first runs count) (n : ℕ) (some : 0 < n) (inside : n < length runs) where
  abbrev kept : List LoadValue
  kept = first ++ flat_map of (take n runs)

  abbrev moved : List LoadValue
  moved = flat_map of (drop n runs)

  cut_there : kept ++ moved ≡ first ++ flat_map of runs
  cut_there = append_assoc first (flat_map of (take n runs)) moved
      ∙ ap (λ l. first ++ l) (sym (flat_map-append of (take n runs) (drop n runs))
      ∙ ap (flat_map of) (take-append-drop n runs))

  -- the runs up to the n-th, and the others
  pub halved : record {
    cut : IsCut (first ++ flat_map of runs) kept moved;
    rises_lower : Rises kept;
    rises_upper : Rises moved;
    has_lower : HasEach of (take n runs);
    has_upper : HasEach of (drop n runs);
  }
  halved =
      let P = λ (r : R). 0 < length (of r) in
      let rises : Rises (kept ++ moved) = subst Rises (sym cut_there) is.rises in
      let has : AllByRecursion P (take n runs ++ drop n runs) = subst (AllByRecursion P) (sym (take-append-drop n runs))
      is.has in
      record {
        cut = record {
          joined = cut_there;
          some_lower = omega (
            arith,
            some_taken of runs n is.has some inside,
            length-append first (flat_map of (take n runs)),
          );
          some_upper = some_dropped of runs n is.has inside;
        };
        rises_lower = rises_front kept moved rises;
        rises_upper = rises_back kept moved rises;
        has_lower = all_front P (take n runs) (drop n runs) has;
        has_upper = all_back P (take n runs) (drop n runs) has;
      }
