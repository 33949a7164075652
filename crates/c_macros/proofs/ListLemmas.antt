-- The list of what is asked for: where there is one, and that there is one at most.
use Rattle.std.proofs.Common.{◌≡◌, ℕ, zero, suc, ◌+◌, ◌<◌, ◌≤◌, List, [], ◌∷◌, ◌++◌, map, length, take}
use Rattle.std.proofs.Common.{drop, get_or, Option, None, Some, refl, sym, ap, ◌∙◌, arith, inl, inr, true, false}
use Rattle.std.specs.Prelude.{Contains, slice_get, ◌⊎◌}
use Rattle.std.specs.List.{list_any}
use Rattle.std.specs.Option.{unwrap_or}
use Rattle.std.specs.List.Sorted.{IsPermutation}
use Rattle.std.proofs.lemmas.List.{take_more, take-append-drop, length_push, length-take-le, get_or-take}
use Rattle.std.proofs.lemmas.List.{get_or_default}
use Rattle.std.proofs.lemmas.List.Elements.{Contains-append_left, Contains-push, Contains-push_cases, Contains-get_or}
use Rattle.std.proofs.lemmas.List.Sorted.{IsPermutation-sym, Contains-permutation}
use Rattle.std.proofs.lemmas.Option.{slice_get_within}
use Rattle.std.proofs.lemmas.Bool.{cases_lt}
use Rattle.c_signature.proofs.RequestLemmas.{contains_first}
use Rattle.c_macros.specs.MacroFormat.{InOrder, ByNumber, HasPlace, AsksFor, Kind, MacroFault, Invalid, Memory, Request}
use Rattle.c_macros.specs.MacroScanning.{is_numbered, IsRising, IsInvalidOnly}

-- ---- whether any is numbered

contains_cons : (y x : Request) (xs : List Request) → Contains xs x → Contains (y ∷ xs) x
contains_cons y x xs (k, lt, is) = (suc k, omega arith, is)

contains_cases : (y x : Request) (xs : List Request) → Contains (y ∷ xs) x → (y ≡ x) ⊎ Contains xs x
contains_cases y x xs (zero, lt, is) = inl is
contains_cases y x xs (suc k, lt, is) = inr (k, omega arith, is)

pub some_number : (asked : List Request) → list_any is_numbered asked ≡ true → (r : Request) × (m : ℕ)
    × Contains asked r × (r.number ≡ Some m)
some_number [] e = absurd (cc e)
some_number (r ∷ more) e = step r.number refl e (some_number more)
  where
    step : (n : Option ℕ) → r.number ≡ n → list_any is_numbered (r ∷ more) ≡ true
        → (list_any is_numbered more ≡ true → (q : Request) × (m : ℕ) × Contains more q × (q.number ≡ Some m))
        → (q : Request) × (m : ℕ) × Contains (r ∷ more) q × (q.number ≡ Some m)
    step (Some m) f e later = (r, m, contains_first r more, f)
    step None f e later =
        let there = later (rw f at e) in
        (there.0, there.1, contains_cons r there.0 more there.2, there.3)

pub no_number : (asked : List Request) → list_any is_numbered asked ≡ false → (r : Request) → Contains asked r
    → r.number ≡ None
no_number [] e r (k, lt, is) = absurd (omega arith)
no_number (q ∷ more) e r c = step q.number refl e (λ f. no_number more f r) (contains_cases q r more c)
  where
    step : (n : Option ℕ) → q.number ≡ n → list_any is_numbered (q ∷ more) ≡ false
        → (list_any is_numbered more ≡ false → Contains more r → r.number ≡ None) → (q ≡ r) ⊎ Contains more r
        → r.number ≡ None
    step (Some m) f e none c = absurd (cc (rw f at e))
    step None f e none (inl same) = rw (← same) f
    step None f e none (inr later) = none (rw f at e) later

pub kinds_in_order : (asked : List Request) (kinds : List Kind) → list_any is_numbered asked ≡ false → kinds
    ≡ map (λ r. r.kind) asked → AsksFor asked kinds
kinds_in_order asked kinds none e = inl (record { unnumbered = no_number asked none; kinds_are = e })

-- ---- by number, one after another

slice_get_left : (xs ys : List Kind) (i : ℕ) (x : Kind) → slice_get xs i ≡ Some x → slice_get (xs ++ ys) i ≡ Some x
slice_get_left [] ys i x e = absurd (cc e)
slice_get_left (y ∷ xs) ys zero x e = e
slice_get_left (y ∷ xs) ys (suc i) x e = slice_get_left xs ys i x e

slice_get_end : (xs : List Kind) (x : Kind) → slice_get (xs ++ x ∷ []) (length xs) ≡ Some x
slice_get_end [] x = refl
slice_get_end (y ∷ xs) x = slice_get_end xs x

kept_place : (kinds : List Kind) (kind : Kind) (r : Request) → HasPlace kinds r → HasPlace (kinds ++ kind ∷ []) r
kept_place kinds kind r (i, e, at) = (i, e, slice_get_left kinds (kind ∷ []) i r.kind at)

number_next : (asked : List Request) (kinds : List Kind) (r : Request) → ByNumber asked kinds
    → r.number ≡ Some (length kinds + 1) → ByNumber (asked ++ r ∷ []) (kinds ++ r.kind ∷ [])
number_next asked kinds r so_far is = record {
  placed = λ q c. elim (Contains-push_cases asked r q c) [
    | inl old ↦ kept_place kinds r.kind q (so_far.placed q old)
    | inr e ↦ rw (← e) (length kinds, is, slice_get_end kinds r.kind)
  ];
  complete = λ i lt. elim (cases_lt i (length kinds)) [
    | inl within ↦ let there = so_far.complete i within in (
      there.0,
      Contains-append_left asked _ there.0 there.1,
      there.2,
    )
    | inr past ↦
        let same : length kinds ≡ i = omega (arith, length_push kinds r.kind) in
        (r, Contains-push asked _, is ∙ ap (λ (n : ℕ). Some (n + 1)) same)
  ];
}

number_again : (asked : List Request) (kinds : List Kind) (i : ℕ) (r : Request) → ByNumber asked kinds
    → r.number ≡ Some (i + 1) → slice_get kinds i ≡ Some r.kind → ByNumber (asked ++ r ∷ []) kinds
number_again asked kinds i r so_far is at = record {
  placed = λ q c. elim (Contains-push_cases asked r q c) [
    | inl old ↦ so_far.placed q old
    | inr e ↦ rw (← e) (i, is, at)
  ];
  complete = λ j lt. let there = so_far.complete j lt in (
    there.0,
    Contains-append_left asked _ there.0 there.1,
    there.2,
  );
}

pub row_next : (asked : List Request) (i index : ℕ) (d : Request) (kinds new : List Kind) → i < length asked
    → ByNumber (take i asked) kinds → (get_or asked i d).number ≡ Some (index + 1) → index ≡ length kinds
    → new ≡ kinds ++ (get_or asked i d).kind ∷ [] → ByNumber (take (i + 1) asked) new
row_next asked i index d kinds new lt so_far is next e =
    rw (take_more asked i d lt, e) (number_next (take i asked) kinds (get_or asked i d) so_far
    (is ∙ ap (λ (n : ℕ). Some (n + 1)) next))

pub row_again : (asked : List Request) (i index : ℕ) (d : Request) (kinds : List Kind) → i < length asked
    → ByNumber (take i asked) kinds → (get_or asked i d).number ≡ Some (index + 1)
    → slice_get kinds index ≡ Some (get_or asked i d).kind → ByNumber (take (i + 1) asked) kinds
row_again asked i index d kinds lt so_far is at =
    rw (take_more asked i d lt) (number_again (take i asked) kinds index (get_or asked i d) so_far is at)

-- ---- what has no list

row_placed : (asked : List Request) (i : ℕ) (d : Request) (kinds : List Kind) → i < length asked
    → ByNumber asked kinds → HasPlace kinds (get_or asked i d)
row_placed asked i d kinds lt all = all.placed _ (Contains-get_or asked i d lt)

pub no_index : (asked : List Request) (i : ℕ) (d : Request) (kinds : List Kind) → i < length asked
    → ((index : ℕ) → (get_or asked i d).number ≡ Some (index + 1) → ⊥) → ByNumber asked kinds → ⊥
no_index asked i d kinds lt none all =
    let there = row_placed asked i d kinds lt all in
    none there.0 there.1

-- two kinds at one index
clash : (kinds : List Kind) (index : ℕ) (r q : Request) → HasPlace kinds r → HasPlace kinds q → r.number
    ≡ Some (index + 1) → q.number ≡ Some (index + 1) → r.kind ≡ q.kind
clash kinds index r q (i, e, at) (j, f, there) is also =
    let i_is : i + 1 ≡ index + 1 = cc (e, is) in
    let j_is : j + 1 ≡ index + 1 = cc (f, also) in
    let same : i ≡ j = omega arith in
    cc (at, there, same)

in_front : (asked : List Request) (i : ℕ) (r : Request) → Contains (take i asked) r → Contains asked r
in_front asked i r c = rw (← take-append-drop i asked) (Contains-append_left (take i asked) (drop i asked) r c)

clash_has_none : (asked : List Request) (i index : ℕ) (d : Request) (so_far kinds : List Kind) → i < length asked
    → ByNumber (take i asked) so_far → (get_or asked i d).number ≡ Some (index + 1) → index < length so_far
    → (slice_get so_far index ≡ Some (get_or asked i d).kind → ⊥) → ByNumber asked kinds → ⊥
clash_has_none asked i index d so_far kinds lt front is within differs all =
    let there = front.complete index within in
    let whole = in_front asked i there.0 there.1 in
    let kinds_same : there.0.kind ≡ (get_or asked i d).kind = clash kinds index there.0 (get_or asked i d)
    (all.placed there.0 whole) (row_placed asked i d kinds lt all) there.2 is in
    let old = front.placed there.0 there.1 in
    let old_place : old.0 + 1 ≡ index + 1 = cc (old.1, there.2) in
    let same : old.0 ≡ index = omega (arith, old_place) in
    differs (rw (← same) (old.2 ∙ ap Some kinds_same))

number_key : (r : Request) (n : ℕ) → r.number ≡ Some n → unwrap_or r.number 0 ≡ n
number_key r n e = rw e refl

gap_has_none : (asked : List Request) (i index : ℕ) (d : Request) (so_far kinds : List Kind) → i < length asked
    → IsRising asked → ByNumber (take i asked) so_far → (get_or asked i d).number ≡ Some (index + 1)
    → length so_far < index → ByNumber asked kinds → ⊥
gap_has_none asked i index d so_far kinds lt rising front is past all =
    let placed = row_placed asked i d kinds lt all in
    let at : placed.0 + 1 ≡ index + 1 = cc (placed.1, is) in
    let within = slice_get_within kinds placed.0 (get_or asked i d).kind placed.2 in
    let missing : length so_far < length kinds = omega (arith, at, within, past) in
    let there = all.complete (length so_far) missing in
    let r = there.0 in
    let k = there.1.0 in
    elim (cases_lt k i) [
      | inl before ↦
          let inside : Contains (take i asked) r = (
            k,
            rw (length-take-le i asked (omega (arith, lt))) before,
            rw (get_or-take i asked k r before) there.1.2,
          ) in
          let old = front.placed r inside in
          let old_place : old.0 + 1 ≡ length so_far + 1 = cc (old.1, there.2) in
          absurd (omega (arith, old_place, slice_get_within so_far old.0 r.kind old.2))
      | inr later ↦
          let low : unwrap_or (get_or asked i r).number 0 ≤ unwrap_or (get_or asked k r).number 0 =
          rising i k r later there.1.1 in
          let here : unwrap_or (get_or asked i r).number 0 ≡ index + 1 =
          ap (λ (q : Request). unwrap_or q.number 0) (get_or_default asked i r d lt)
          ∙ number_key (get_or asked i d) (index + 1) is in
          let far : unwrap_or (get_or asked k r).number 0 ≡ length so_far + 1 =
          ap (λ (q : Request). unwrap_or q.number 0) there.1.2 ∙ number_key r (length so_far + 1) there.2 in
          absurd (omega (arith, low, here, far, past))
    ]

pub wrong_has_none : (asked : List Request) (i index : ℕ) (d : Request) (so_far kinds : List Kind) → i < length asked
    → IsRising asked → ByNumber (take i asked) so_far → (get_or asked i d).number ≡ Some (index + 1)
    → (index ≡ length so_far → ⊥) → (slice_get so_far index ≡ Some (get_or asked i d).kind → ⊥)
    → ByNumber asked kinds → ⊥
wrong_has_none asked i index d so_far kinds lt rising front is not_next differs all =
    elim (cases_lt index (length so_far)) [
      | inl within ↦ clash_has_none asked i index d so_far kinds lt front is within differs all
      | inr past ↦ gap_has_none asked i index d so_far kinds lt rising front is (omega arith) all
    ]

-- ---- what is sorted by number

number_moved : (xs ys : List Request) (kinds : List Kind) → IsPermutation xs ys → ByNumber xs kinds
    → ByNumber ys kinds
number_moved xs ys kinds moves list = record {
  placed = λ r c. list.placed r (Contains-permutation ys xs r (IsPermutation-sym xs ys moves) c);
  complete = λ i lt. let there = list.complete i lt in (
    there.0,
    Contains-permutation xs ys there.0 moves there.1,
    there.2,
  );
}

pub sorted_lists : (asked sorted : List Request) (kinds : List Kind) → IsPermutation asked sorted
    → ByNumber sorted kinds → AsksFor asked kinds
sorted_lists asked sorted kinds moves list =
    inr (number_moved sorted asked kinds (IsPermutation-sym asked sorted moves) list)

pub sorted_has_none : (asked sorted : List Request) (kinds : List Kind) → IsPermutation asked sorted
    → list_any is_numbered asked ≡ true → ((kinds : List Kind) → ByNumber sorted kinds → ⊥) → AsksFor asked kinds → ⊥
sorted_has_none asked sorted kinds moves some none (inl order) =
    let there = some_number asked some in
    cc (order.unnumbered there.0 there.2, there.3)
sorted_has_none asked sorted kinds moves some none (inr number) = none kinds
    (number_moved asked sorted kinds moves number)

pub invalid_weaker : (fault : MacroFault) (P Q : Type 0) → (P → Q) → IsInvalidOnly fault P → IsInvalidOnly fault Q
invalid_weaker Invalid P Q f h = f h
invalid_weaker Memory P Q f h = tt

-- ---- one list

same_gets : (xs ys : List Kind) → ((i : ℕ) (x : Kind) → slice_get xs i ≡ Some x → slice_get ys i ≡ Some x)
    → ((i : ℕ) (x : Kind) → slice_get ys i ≡ Some x → slice_get xs i ≡ Some x) → xs ≡ ys
same_gets [] [] there back = refl
same_gets [] (y ∷ ys) there back = absurd (cc (back 0 y refl))
same_gets (x ∷ xs) [] there back = absurd (cc (there 0 x refl))
same_gets (x ∷ xs) (y ∷ ys) there back =
    let heads : y ≡ x = cc (there 0 x refl) in
    let tails = same_gets xs ys (λ i z e. there (suc i) z e) (λ i z e. back (suc i) z e) in
    cc (heads, tails)

-- what is at an index of one list is there in the other
same_place : (asked : List Request) (kinds others : List Kind) → ByNumber asked kinds → ByNumber asked others
    → (i : ℕ) (x : Kind) → slice_get kinds i ≡ Some x → slice_get others i ≡ Some x
same_place asked kinds others p q i x e =
    let there = p.complete i (slice_get_within kinds i x e) in
    let here = p.placed there.0 there.1 in
    let also = q.placed there.0 there.1 in
    let here_is : here.0 + 1 ≡ i + 1 = cc (here.1, there.2) in
    let also_is : also.0 + 1 ≡ i + 1 = cc (also.1, there.2) in
    let here_at : here.0 ≡ i = omega (arith, here_is) in
    let also_at : also.0 ≡ i = omega (arith, also_is) in
    let kind : Some there.0.kind ≡ Some x = sym here.2 ∙ ap (λ (k : ℕ). slice_get kinds k) here_at ∙ e in
    sym (ap (λ (k : ℕ). slice_get others k) also_at) ∙ also.2 ∙ kind

-- only the empty list is both in order and by number
both_ways : (asked : List Request) (kinds others : List Kind) → InOrder asked kinds → ByNumber asked others → kinds
    ≡ others
both_ways (r ∷ more) kinds others order number =
    let place = number.placed r (contains_first r more) in
    absurd (cc (order.unnumbered r (contains_first r more), place.1))
both_ways [] kinds [] order number = order.kinds_are
both_ways [] kinds (k ∷ others) order number =
    let there = number.complete 0 (omega arith) in
    absurd (omega (arith, there.1.1))

pub one_list : (asked : List Request) (kinds others : List Kind) → AsksFor asked kinds → AsksFor asked others → kinds
    ≡ others
one_list asked kinds others (inl p) (inl q) = p.kinds_are ∙ sym q.kinds_are
one_list asked kinds others (inl p) (inr q) = both_ways asked kinds others p q
one_list asked kinds others (inr p) (inl q) = sym (both_ways asked others kinds q p)
one_list asked kinds others (inr p) (inr q) = same_gets kinds others (same_place asked kinds others p q)
    (same_place asked others kinds q p)
