-- The index of a key among rising keys, and a binary search for it.
use Rattle.entry_search.proofs.Kit.{◌≡◌, ℕ, ◌+◌, ◌<◌, ◌≤◌, true, false, List, [], ◌∷◌, length, Option, Some, None}
use Rattle.entry_search.proofs.Kit.{slice_get, refl, sym, ap, ◌∙◌, subst, arith, inl, inr, IfSome, nat_cmp, Less, Equal}
use Rattle.entry_search.proofs.Kit.{slice_cmp, bytes_eq, cases_lt, bytes_eq-Decides, Entry, key}
use Rattle.std.proofs.Common.{zero, suc, map, Ordering, lit≤}
use Rattle.std.specs.Prelude.{◌-◌, ◌*◌, ◌/◌, ◌^◌}
use Rattle.std.specs.Ordering.{ordering_reverse}
use Rattle.std.specs.declared.cmp.Ordering.TheVariants.{Greater}
use Rattle.std.specs.Cmp.{IsTotalOrder}
use Rattle.std.proofs.lemmas.Cmp.{nat_list_cmp_total, tied_itself}
use Rattle.std.proofs.lemmas.Nat.{mul-le}
use Rattle.std.proofs.Math.Nat.{pow-suc}
use Rattle.std.proofs.Math.Pow.{pow_mono}
use Rattle.std.proofs.lemmas.Int.Digits.{number_lt, number_digits_of, all_below_base_digits_of}
use Rattle.std.specs.Int.Digits.{digits_of}
use Rattle.std.specs.FinMap.{slice_cmp-IsAntisymmetric, nat_cmp-IsAntisymmetric}
use Rattle.mo_image.specs.Map.{Rises, entry_at}
use Rattle.entry_search.specs.Search.{AtMostDigits, digits}
use Rattle.mo_image.proofs.Lists.{slice_get-map}

-- the entries before `low` have lesser keys than the one to look up
abbrev pub AllBelow : List Entry → ℕ → List ℕ → Type 0
AllBelow m low asked = (j : ℕ) (e : Entry) → j < low → slice_get m j ≡ Some e → slice_cmp nat_cmp (key e) asked ≡ Less

-- the entries from `high` on have greater keys
abbrev pub AllAbove : List Entry → ℕ → List ℕ → Type 0
AllAbove m high asked = (j : ℕ) (e : Entry) → high ≤ j → slice_get m j ≡ Some e → slice_cmp nat_cmp (key e) asked
    ≡ Greater

-- ---- rising keys

abbrev total : IsTotalOrder (slice_cmp nat_cmp)
total = nat_list_cmp_total

pub rises_from : (k : List ℕ) (ks : List (List ℕ)) (j : ℕ) (b : List ℕ) → Rises (k ∷ ks) → slice_get ks j ≡ Some b
    → slice_cmp nat_cmp k b ≡ Less
rises_from k [] j b rises e = absurd cc
rises_from k (l ∷ ks) zero b rises e = let same : l ≡ b = cc in subst (λ (x : List ℕ). slice_cmp nat_cmp k x ≡ Less)
    same rises.0
rises_from k (l ∷ ks) (suc j) b rises e = total.trans k l b rises.0 (rises_from l ks j b rises.1 e)

rises_rest : (k : List ℕ) (ks : List (List ℕ)) → Rises (k ∷ ks) → Rises ks
rises_rest k [] rises = tt
rises_rest k (l ∷ ks) rises = rises.1

mapped : (m : List Entry) (j : ℕ) (e : Entry) → slice_get m j ≡ Some e → slice_get (map key m) j ≡ Some (key e)
mapped m j e h = slice_get-map key m j e h

-- the later of two entries has the greater key
pub rises_pair : (m : List Entry) (i j : ℕ) (d e : Entry) → Rises (map key m) → i < j → slice_get m i ≡ Some d
    → slice_get m j ≡ Some e → slice_cmp nat_cmp (key d) (key e) ≡ Less
rises_pair [] i j d e rises lt di ej = absurd cc
rises_pair (x ∷ m) zero zero d e rises lt di ej = absurd (omega arith)
rises_pair (x ∷ m) zero (suc j) d e rises lt di ej =
    let same : x ≡ d = cc in
    subst (λ (y : Entry). slice_cmp nat_cmp (key y) (key e) ≡ Less) same
    (rises_from (key x) (map key m) j (key e) rises (mapped m j e ej))
rises_pair (x ∷ m) (suc i) zero d e rises lt di ej = absurd (omega arith)
rises_pair (x ∷ m) (suc i) (suc j) d e rises lt di ej = rises_pair m i j d e (rises_rest (key x) (map key m) rises)
    (omega arith) di ej

-- ---- a step of the search

abbrev some : Entry → Option Entry
some e = Some e

pub some_is : (d e : Entry) → some d ≡ some e → d ≡ e
some_is d e h = cc

pub less_below : (m : List Entry) (mid : ℕ) (e : Entry) (asked : List ℕ) → Rises (map key m) → slice_get m mid ≡ Some e
    → slice_cmp nat_cmp (key e) asked ≡ Less → AllBelow m (mid + 1) asked
less_below m mid e asked rises here less j d lt there =
    elim (cases_lt j mid) [
      | inl before ↦ total.trans (key d) (key e) asked (rises_pair m j mid d e rises before there here) less
      | inr at ↦
          let same : j ≡ mid = omega (arith, at, lt) in
          let one : slice_get m mid ≡ Some d = subst (λ (k : ℕ). slice_get m k ≡ Some d) same there in
          let e-is : e ≡ d = some_is e d (sym here ∙ one) in
          subst (λ (x : Entry). slice_cmp nat_cmp (key x) asked ≡ Less) e-is less
    ]

flipped : (x y : List ℕ) (o : Ordering) → slice_cmp nat_cmp x y ≡ o → slice_cmp nat_cmp y x ≡ ordering_reverse o
flipped x y o h = total.antisymm y x ∙ ap ordering_reverse h

pub greater_above : (m : List Entry) (mid : ℕ) (e : Entry) (asked : List ℕ) → Rises (map key m) → slice_get m mid
    ≡ Some e → slice_cmp nat_cmp (key e) asked ≡ Greater → AllAbove m mid asked
greater_above m mid e asked rises here greater j d le there =
    elim (cases_lt mid j) [
      | inl after ↦ flipped asked (key d) Less (total.trans asked (key e) (key d)
          (flipped (key e) asked Greater greater) (rises_pair m mid j e d rises after here there))
      | inr at ↦
          let same : j ≡ mid = omega (arith, at, le) in
          let one : slice_get m mid ≡ Some d = subst (λ (k : ℕ). slice_get m k ≡ Some d) same there in
          let e-is : e ≡ d = some_is e d (sym here ∙ one) in
          subst (λ (x : Entry). slice_cmp nat_cmp (key x) asked ≡ Greater) e-is greater
    ]

-- a key that doesn't compare as equal is another key
pub apart : (x y : List ℕ) (o : Ordering) → slice_cmp nat_cmp x y ≡ o → (o ≡ Equal → ⊥) → bytes_eq x y ≡ false
apart x y o h ne =
    elim (bytes_eq x y) as (λ r. bytes_eq x y ≡ r → r ≡ false) [
      | true ↦ λ e. absurd (ne (sym h ∙ sym (ap (slice_cmp nat_cmp x) ((bytes_eq-Decides x y).0 e))
          ∙ tied_itself total x))
      | false ↦ λ e. refl
    ] refl

pub less_ne : Less ≡ Equal → ⊥
less_ne e = cc

pub greater_ne : Greater ≡ Equal → ⊥
greater_ne e = cc

-- no key is the one to look up
pub find_none : (m : List Entry) (asked : List ℕ) → ((j : ℕ) (e : Entry) → slice_get m j ≡ Some e
    → bytes_eq (key e) asked ≡ false) → entry_at m asked ≡ None
find_none [] asked none = refl
find_none (x ∷ m) asked none = rw (none 0 x refl) (find_none m asked (λ j e h. none (suc j) e h))

pub missing : (m : List Entry) (low high : ℕ) (asked : List ℕ) → AllBelow m low asked → AllAbove m high asked
    → high ≤ low → entry_at m asked ≡ None
missing m low high asked below above met = find_none m asked (λ j e h. elim (cases_lt j low) [
  | inl lt ↦ apart (key e) asked Less (below j e lt h) less_ne
  | inr le ↦ apart (key e) asked Greater (above j e (omega (arith, le, met)) h) greater_ne
])

pub find_some : (m : List Entry) (i : ℕ) (e : Entry) (asked : List ℕ) → Rises (map key m) → slice_get m i ≡ Some e
    → key e ≡ asked → entry_at m asked ≡ Some e
find_some [] i e asked rises here is = absurd cc
find_some (x ∷ m) zero e asked rises here is =
    let same : x ≡ e = some_is x e here in
    let yes : bytes_eq (key x) asked ≡ true = (bytes_eq-Decides (key x) asked).1 (ap key same ∙ is) in
    rw yes here
find_some (x ∷ m) (suc i) e asked rises here is =
    let less : slice_cmp nat_cmp (key x) asked ≡ Less = subst (λ (k : List ℕ). slice_cmp nat_cmp (key x) k ≡ Less) is
    (rises_from (key x) (map key m) i (key e) rises (mapped m i e here)) in
    rw (apart (key x) asked Less less less_ne) (find_some m i e asked (rises_rest (key x) (map key m) rises) here is)

pub found_equal : (m : List Entry) (i : ℕ) (e : Entry) (asked : List ℕ) → Rises (map key m) → slice_get m i ≡ Some e
    → slice_cmp nat_cmp (key e) asked ≡ Equal → entry_at m asked ≡ Some e
found_equal m i e asked rises here equal = find_some m i e asked rises here
    (slice_cmp-IsAntisymmetric nat_cmp-IsAntisymmetric (key e) asked equal)

-- what a comparison says about the message with an index
pub order_at : (m : List Entry) (i : ℕ) (e : Entry) (asked : List ℕ) (o : Ordering)
    → IfSome (slice_get m i) (λ x. o ≡ slice_cmp nat_cmp (key x) asked) → slice_get m i ≡ Some e
    → slice_cmp nat_cmp (key e) asked ≡ o
order_at m i e asked o order here = sym (subst (λ (x : Option Entry). IfSome x
    (λ y. o ≡ slice_cmp nat_cmp (key y) asked)) here order)

-- ---- the cost

enough_digits : (n : ℕ) → n < 2 ^ digits n
enough_digits n =
    subst (λ (value : ℕ). value < 2 ^ digits n) (number_digits_of 2 n (lit≤ tt))
    (number_lt 2 (digits_of 2 n) (all_below_base_digits_of 2 n (lit≤ tt)))

-- each step but the last halves the range
pub few_steps : (n old new : ℕ) → old ≤ new → 2 ^ (new - old) ≤ 2 * n + 1 → AtMostDigits n old new
few_steps n old new counted small = record {
  counted = counted;
  cost = elim (cases_lt (digits n) (new - old)) [
    | inl more ↦
        let grown : 2 ^ suc (digits n) ≤ 2 ^ (new - old) = pow_mono (omega (arith, more)) in
        absurd (omega (arith, enough_digits n, grown, pow-suc 2 (digits n), small))
    | inr few ↦ omega (arith, few, counted)
  ];
}

doubled : (old now : ℕ) → old ≤ now → 2 ^ (now + 1 - old) ≡ 2 * 2 ^ (now - old)
doubled old now le =
    let e : now + 1 - old ≡ suc (now - old) = omega arith in
    rw e (omega (arith, pow-suc 2 (now - old)))

halved : (s t p n : ℕ) → 0 < s → 2 * t ≤ s → s * p ≤ n → (2 * p ≤ 2 * n + 1) × (t * (2 * p) ≤ n)
halved s t p n some half left =
    let one = mul-le 1 p s p some (omega arith) in
    let two = mul-le (2 * t) p s p half (omega arith) in
    (omega (arith, one, left), omega (arith, two, left))

-- ---- one round of the search

pub record Range (m : List Entry) (asked : List ℕ) (old now low high : ℕ) : Type 0 where
  pub ordered : low ≤ high
  pub within : high ≤ length m
  pub below : AllBelow m low asked
  pub above : AllAbove m high asked
  pub counted : old ≤ now
  pub cost : 2 ^ (now - old) ≤ 2 * length m + 1
  pub left : (high - low) * 2 ^ (now - old) ≤ length m

pub some_at : {X : Type 0} (xs : List X) (i : ℕ) → i < length xs → (x : X) × (slice_get xs i ≡ Some x)
some_at [] i lt = absurd (omega arith)
some_at (x ∷ xs) zero lt = (x, refl)
some_at (x ∷ xs) (suc i) lt = some_at xs i (omega arith)

abbrev pub Compared : List Entry → ℕ → List ℕ → Ordering → Type 0
Compared m i asked o = IfSome (slice_get m i) (λ x. o ≡ slice_cmp nat_cmp (key x) asked)

costs : (m : List Entry) (old now next s t : ℕ) → old ≤ now → next ≡ now + 1 → 0 < s → 2 * t ≤ s
    → s * 2 ^ (now - old) ≤ length m
    → (2 ^ (next - old) ≤ 2 * length m + 1) × (t * 2 ^ (next - old) ≤ length m)
costs m old now next s t le step some half left =
    let twice : 2 ^ (next - old) ≡ 2 * 2 ^ (now - old) = rw step (doubled old now le) in
    rw twice (halved s t (2 ^ (now - old)) (length m) some half left)

pub cost_here : (m : List Entry) (asked : List ℕ) (old now next low high : ℕ) → Range m asked old now low high
    → low < high → next ≡ now + 1 → AtMostDigits (length m) old next
cost_here m asked old now next low high r lt step = few_steps (length m) old next (omega (arith, r.counted, step))
    (costs m old now next (high - low) 0 r.counted step (omega arith) (omega arith) r.left).0

pub cost_there : (m : List Entry) (asked : List ℕ) (old now low high : ℕ) → Range m asked old now low high
    → AtMostDigits (length m) old now
cost_there m asked old now low high r = few_steps (length m) old now r.counted r.cost

pub goes_up : (m : List Entry) (asked : List ℕ) (old now next low high mid : ℕ) → Range m asked old now low high
    → Rises (map key m) → low < high → mid ≡ low + (high - low) / 2 → next ≡ now + 1
    → Compared m mid asked Less → Range m asked old next (mid + 1) high
goes_up m asked old now next low high mid r rises lt middle step less =
    let in_range : mid < high = omega arith in
    let here = some_at m mid (omega (arith, in_range, r.within)) in
    let c = costs m old now next (high - low) (high - (mid + 1)) r.counted step (omega arith) (omega arith) r.left in
    record {
      ordered = omega arith;
      within = r.within;
      below = less_below m mid here.0 asked rises here.1 (order_at m mid here.0 asked Less less here.1);
      above = r.above;
      counted = omega (arith, r.counted);
      cost = c.0;
      left = c.1;
    }

pub goes_down : (m : List Entry) (asked : List ℕ) (old now next low high mid : ℕ) → Range m asked old now low high
    → Rises (map key m) → low < high → mid ≡ low + (high - low) / 2 → next ≡ now + 1
    → Compared m mid asked Greater → Range m asked old next low mid
goes_down m asked old now next low high mid r rises lt middle step greater =
    let in_range : mid < high = omega arith in
    let here = some_at m mid (omega (arith, in_range, r.within)) in
    let c = costs m old now next (high - low) (mid - low) r.counted step (omega arith) (omega arith) r.left in
    record {
      ordered = omega arith;
      within = omega (arith, in_range, r.within);
      below = r.below;
      above = greater_above m mid here.0 asked rises here.1 (order_at m mid here.0 asked Greater greater here.1);
      counted = omega (arith, r.counted);
      cost = c.0;
      left = c.1;
    }
