-- What is asked for, in two lists, and the list by number.
use Rattle.std.proofs.Common.{◌≡◌, ℕ, zero, suc, ◌+◌, ◌-◌, ◌<◌, ◌≤◌, List, [], ◌∷◌, ◌++◌, map, length, take}
use Rattle.std.proofs.Common.{drop, get_or, Option, None, Some, refl, sym, ap, subst, ◌∙◌, arith, inl, inr, true, false}
use Rattle.std.specs.Prelude.{Contains, slice_get, ◌⊎◌, ◌==◌}
use Rattle.std.specs.List.{filter_map}
use Rattle.std.proofs.lemmas.List.{append-nil, map_more, take-append-drop, length_push}
use Rattle.std.proofs.lemmas.List.{nil_from_length, length-take-le, get_or-take, get_or_default}
use Rattle.std.proofs.lemmas.List.Elements.{filter_map-append, Contains-append_left, Contains-push}
use Rattle.std.proofs.lemmas.List.Elements.{Contains-push_cases, Contains-get_or}
use Rattle.std.proofs.lemmas.Option.{slice_get_within}
use Rattle.std.proofs.lemmas.Bool.{cases_lt, eqb-true, eqb-false}
use Rattle.c_signature.specs.declared.ArgKind.{ArgKind}
use Rattle.std.specs.List.Sorted.{IsPermutation}
use Rattle.std.proofs.lemmas.List.Sorted.{IsPermutation-sym, IsPermutation-map, Contains-permutation}
use Rattle.c_signature.specs.declared.FormatFault.{FormatFault}
use Rattle.c_signature.specs.declared.FormatFault.TheVariants.{Invalid, SystemDependent, Memory}
use Rattle.c_signature.specs.declared.requests.Row.{Row}
use Rattle.c_signature.specs.declared.requests.Requests.{Requests}
use Rattle.c_signature.specs.Signature.{Request, request, InOrder, ByNumber, HasPlace, AsksFor}
use Rattle.c_signature.specs.Asked.{KeepsAsked, unnumbered_kind, row_of, request_of, IsRising, IsInvalidOnly}

-- ---- one more request

pub holds_next : (asked : List Request) (kept new : Requests) (kind : ArgKind) → KeepsAsked asked kept
    → new.unnumbered.items
    ≡ kept.unnumbered.items ++ kind ∷ [] → new.numbered.items ≡ kept.numbered.items
    → KeepsAsked (asked ++ request None kind ∷ []) new
holds_next asked kept new kind holds e same = record {
  unnumbered = e ∙ ap (λ (t : List ArgKind). t ++ kind ∷ []) holds.unnumbered
      ∙ sym (filter_map-append unnumbered_kind asked (request None kind ∷ []));
  numbered = same ∙ holds.numbered ∙ sym (append-nil _) ∙ sym (filter_map-append row_of asked (request None kind ∷ []));
}

pub holds_row : (asked : List Request) (kept new : Requests) (number : ℕ) (kind : ArgKind) → KeepsAsked asked kept
    → new.unnumbered.items ≡ kept.unnumbered.items → new.numbered.items ≡ kept.numbered.items
    ++ record { number = number; kind = kind } ∷ [] → KeepsAsked (asked ++ request (Some number) kind ∷ []) new
holds_row asked kept new number kind holds same e = record {
  unnumbered = same ∙ holds.unnumbered ∙ sym (append-nil _) ∙ sym
      (filter_map-append unnumbered_kind asked (request (Some number) kind ∷ []));
  numbered = e ∙ ap (λ (t : List Row). t ++ record { number = number; kind = kind } ∷ []) holds.numbered
      ∙ sym (filter_map-append row_of asked (request (Some number) kind ∷ []));
}

-- ---- members

contains_cons : {A : Type 0} (y x : A) (xs : List A) → Contains xs x → Contains (y ∷ xs) x
contains_cons y x xs (k, lt, is) = (suc k, omega arith, is)

pub contains_first : {A : Type 0} (x : A) (xs : List A) → Contains (x ∷ xs) x
contains_first x xs = (0, omega arith, refl)

contains_cases : {A : Type 0} (y x : A) (xs : List A) → Contains (y ∷ xs) x → (y ≡ x) ⊎ Contains xs x
contains_cases y x xs (zero, lt, is) = inl is
contains_cases y x xs (suc k, lt, is) = inr (k, omega arith, is)

pub contains_map : {A B : Type 0} (f : A → B) (xs : List A) (y : B) → Contains (map f xs) y → (x : A) × Contains xs x
    × (f x ≡ y)
contains_map f [] y (k, lt, is) = absurd (omega arith)
contains_map f (x ∷ xs) y c = elim (contains_cases (f x) y (map f xs) c) [
  | inl e ↦ (x, contains_first x xs, e)
  | inr more ↦ let there = contains_map f xs y more in (there.0, contains_cons x there.0 xs there.1, there.2)
]

pub map_contains : {A B : Type 0} (f : A → B) (xs : List A) (x : A) → Contains xs x → Contains (map f xs) (f x)
map_contains f [] x (k, lt, is) = absurd (omega arith)
map_contains {A} f (y ∷ xs) x c = elim (contains_cases y x xs c) [
  | inl e ↦ subst (λ (z : A). Contains (f y ∷ map f xs) (f z)) e (contains_first (f y) (map f xs))
  | inr more ↦ contains_cons (f y) (f x) (map f xs) (map_contains f xs x more)
]

-- ---- if one of the two lists is empty

-- all without a number
pub all_next : (asked : List Request) → filter_map row_of asked ≡ [] → asked
    ≡ map (λ kind. request None kind) (filter_map unnumbered_kind asked)
all_next [] e = refl
all_next (r ∷ more) e = step r.number r.kind (all_next more) e
  where
    step : (n : Option ℕ) (kind : ArgKind) → (filter_map row_of more ≡ [] → more
        ≡ map (λ kind. request None kind) (filter_map unnumbered_kind more)) → filter_map row_of (request n kind ∷ more)
        ≡ [] → request n kind ∷ more ≡ map (λ kind. request None kind)
        (filter_map unnumbered_kind (request n kind ∷ more))
    step None kind ih e = ap (λ (t : List Request). request None kind ∷ t) (ih e)
    step (Some m) kind ih e = absurd (cc e)

-- all with a number
pub all_rows : (asked : List Request) → filter_map unnumbered_kind asked ≡ [] → asked
    ≡ map request_of (filter_map row_of asked)
all_rows [] e = refl
all_rows (r ∷ more) e = step r.number r.kind (all_rows more) e
  where
    step : (n : Option ℕ) (kind : ArgKind) → (filter_map unnumbered_kind more ≡ [] → more
        ≡ map request_of (filter_map row_of more)) → filter_map unnumbered_kind (request n kind ∷ more) ≡ []
        → request n kind ∷ more ≡ map request_of (filter_map row_of (request n kind ∷ more))
    step None kind ih e = absurd (cc e)
    step (Some m) kind ih e = ap (λ (t : List Request). request (Some m) kind ∷ t) (ih e)

-- one without a number
pub one_next : (asked : List Request) → (filter_map unnumbered_kind asked ≡ [] → ⊥) → (r : Request) × Contains asked r
    × (r.number ≡ None)
one_next [] some = absurd (some refl)
one_next (r ∷ more) some = step r.number r.kind (one_next more) some
  where
    step : (n : Option ℕ) (kind : ArgKind) → ((filter_map unnumbered_kind more ≡ [] → ⊥) → (r : Request)
        × Contains more r × (r.number ≡ None)) → (filter_map unnumbered_kind (request n kind ∷ more) ≡ [] → ⊥)
        → (r : Request) × Contains (request n kind ∷ more) r × (r.number ≡ None)
    step None kind ih some = (request None kind, contains_first (request None kind) more, refl)
    step (Some m) kind ih some = let there = ih some in (
      there.0,
      contains_cons (request (Some m) kind) there.0 more
          there.1,
      there.2,
    )

-- one with a number
pub one_row : (asked : List Request) → (filter_map row_of asked ≡ [] → ⊥) → (r : Request) × (m : ℕ) × Contains asked r
    × (r.number ≡ Some m)
one_row [] some = absurd (some refl)
one_row (r ∷ more) some = step r.number r.kind (one_row more) some
  where
    step : (n : Option ℕ) (kind : ArgKind) → ((filter_map row_of more ≡ [] → ⊥) → (r : Request) × (m : ℕ)
        × Contains more r × (r.number ≡ Some m)) → (filter_map row_of (request n kind ∷ more) ≡ [] → ⊥) → (r : Request)
        × (m : ℕ) × Contains (request n kind ∷ more) r × (r.number ≡ Some m)
    step None kind ih some = let there = ih some in (
      there.0,
      there.1,
      contains_cons (request None kind) there.0 more
          there.2,
      there.3,
    )
    step (Some m) kind ih some = (request (Some m) kind, m, contains_first (request (Some m) kind) more, refl)

-- ---- lists

pub next_in_order : (kinds : List ArgKind) → InOrder (map (λ kind. request None kind) kinds) kinds
next_in_order kinds = record {
  unnumbered = λ r c. let there = contains_map (λ kind. request None kind) kinds r c in sym
      (ap (λ (q : Request). q.number) there.2);
  kinds_are = kinds_of kinds;
}
  where
    kinds_of : (kinds : List ArgKind) → kinds ≡ map (λ r. r.kind) (map (λ kind. request None kind) kinds)
    kinds_of [] = refl
    kinds_of (kind ∷ more) = ap (λ (t : List ArgKind). kind ∷ t) (kinds_of more)

-- a list by number has no argument without a number
pub mixed : (asked : List Request) (kinds : List ArgKind) → (filter_map unnumbered_kind asked ≡ [] → ⊥)
    → (filter_map row_of asked ≡ [] → ⊥) → AsksFor asked kinds → ⊥
mixed asked kinds next rows (inl order) = let there = one_row asked rows in cc
    (order.unnumbered there.0 there.2, there.3)
mixed asked kinds next rows (inr number) =
    let there = one_next asked next in
    let place = number.placed there.0 there.1 in
    cc (place.1, there.2)

-- ---- by number, one row after another

slice_get_left : {A : Type 0} (xs ys : List A) (i : ℕ) (x : A) → slice_get xs i ≡ Some x → slice_get (xs ++ ys) i
    ≡ Some x
slice_get_left [] ys i x e = absurd (cc e)
slice_get_left (y ∷ xs) ys zero x e = e
slice_get_left (y ∷ xs) ys (suc i) x e = slice_get_left xs ys i x e

slice_get_end : {A : Type 0} (xs : List A) (x : A) → slice_get (xs ++ x ∷ []) (length xs) ≡ Some x
slice_get_end [] x = refl
slice_get_end (y ∷ xs) x = slice_get_end xs x

kept_place : (kinds : List ArgKind) (kind : ArgKind) (r : Request) → HasPlace kinds r → HasPlace (kinds ++ kind ∷ []) r
kept_place kinds kind r (i, e, at) = (i, e, slice_get_left kinds (kind ∷ []) i r.kind at)

-- the next number, with its kind
number_next : (asked : List Request) (kinds : List ArgKind) (kind : ArgKind) → ByNumber asked kinds
    → ByNumber (asked ++ request (Some (length kinds + 1)) kind ∷ []) (kinds ++ kind ∷ [])
number_next asked kinds kind so_far = record {
  placed = λ r c. elim (Contains-push_cases asked (request (Some (length kinds + 1)) kind) r c) [
    | inl old ↦ kept_place kinds kind r (so_far.placed r old)
    | inr e ↦ rw (← e) (length kinds, refl, slice_get_end kinds kind)
  ];
  complete = λ i lt. elim (cases_lt i (length kinds)) [
    | inl within ↦ let there = so_far.complete i within in (
      there.0,
      Contains-append_left asked _ there.0 there.1,
      there.2,
    )
    | inr past ↦
        let is : length kinds ≡ i = omega (arith, length_push kinds kind) in
        (request (Some (length kinds + 1)) kind, Contains-push asked _, ap (λ (n : ℕ). Some (n + 1)) is)
  ];
}

-- a number that is already in the list, with an equal kind
number_again : (asked : List Request) (kinds : List ArgKind) (i : ℕ) (kind : ArgKind) → ByNumber asked kinds
    → slice_get kinds i ≡ Some kind → ByNumber (asked ++ request (Some (i + 1)) kind ∷ []) kinds
number_again asked kinds i kind so_far at = record {
  placed = λ r c. elim (Contains-push_cases asked (request (Some (i + 1)) kind) r c) [
    | inl old ↦ so_far.placed r old
    | inr e ↦ rw (← e) (i, refl, at)
  ];
  complete = λ j lt. let there = so_far.complete j lt in (
    there.0,
    Contains-append_left asked _ there.0 there.1,
    there.2,
  );
}

-- the rows up to and including one
rows_more : (rows : List Row) (i : ℕ) (d : Row) → i < length rows → map request_of (take (i + 1) rows)
    ≡ map request_of (take i rows) ++ request_of (get_or rows i d) ∷ []
rows_more rows i d lt = map_more request_of rows i d lt

rows_next : (rows : List Row) (i : ℕ) (d : Row) (kinds new : List ArgKind) → i < length rows
    → ByNumber (map request_of (take i rows)) kinds → (get_or rows i d).number ≡ length kinds + 1 → new ≡ kinds
    ++ (get_or rows i d).kind ∷ [] → ByNumber (map request_of (take (i + 1) rows)) new
rows_next rows i d kinds new lt so_far is e =
    rw (rows_more rows i d lt, e, is) (number_next (map request_of (take i rows)) kinds (get_or rows i d).kind so_far)

rows_again : (rows : List Row) (i index : ℕ) (d : Row) (kinds : List ArgKind) → i < length rows
    → ByNumber (map request_of (take i rows)) kinds → (get_or rows i d).number ≡ index + 1 → slice_get kinds index
    ≡ Some (get_or rows i d).kind → ByNumber (map request_of (take (i + 1) rows)) kinds
rows_again rows i index d kinds lt so_far is at =
    rw (rows_more rows i d lt, is) (number_again (map request_of (take i rows)) kinds index (get_or rows i d).kind
    so_far at)

-- ---- rows with no list

-- a row is at its index of the list
row_placed : (rows : List Row) (i : ℕ) (d : Row) (kinds : List ArgKind) → i < length rows
    → ByNumber (map request_of rows) kinds → HasPlace kinds (request_of (get_or rows i d))
row_placed rows i d kinds lt all = all.placed _ (map_contains request_of rows (get_or rows i d)
    (Contains-get_or rows i d lt))

pub zero_has_none : (rows : List Row) (i : ℕ) (d : Row) (kinds : List ArgKind) → i < length rows
    → (1 ≤ (get_or rows i d).number → ⊥) → ByNumber (map request_of rows) kinds → ⊥
zero_has_none rows i d kinds lt none all =
    let place = row_placed rows i d kinds lt all in
    let e : (get_or rows i d).number ≡ place.0 + 1 = cc place.1 in
    none (omega (arith, e))

-- two kinds at one index
clash : (kinds : List ArgKind) (index : ℕ) (r q : Request) → HasPlace kinds r → HasPlace kinds q → r.number
    ≡ Some (index + 1) → q.number ≡ Some (index + 1) → r.kind ≡ q.kind
clash kinds index r q (i, e, at) (j, f, there) is also =
    let i_is : i + 1 ≡ index + 1 = cc (e, is) in
    let j_is : j + 1 ≡ index + 1 = cc (f, also) in
    let same : i ≡ j = omega arith in
    cc (at, there, same)

in_front : (rows : List Row) (i : ℕ) (row : Row) → Contains (take i rows) row → Contains rows row
in_front rows i row c = rw (← take-append-drop i rows) (Contains-append_left (take i rows) (drop i rows) row c)

clash_has_none : (rows : List Row) (i index : ℕ) (d : Row) (so_far kinds : List ArgKind) → i < length rows
    → ByNumber (map request_of (take i rows)) so_far → (get_or rows i d).number ≡ index + 1 → index < length so_far
    → (slice_get so_far index ≡ Some (get_or rows i d).kind → ⊥) → ByNumber (map request_of rows) kinds → ⊥
clash_has_none rows i index d so_far kinds lt front is within differs all =
    let there = front.complete index within in
    let before = contains_map request_of (take i rows) there.0 there.1 in
    let whole : Contains (map request_of rows) there.0 = subst (λ (q : Request). Contains (map request_of rows) q)
    before.2 (map_contains request_of rows before.0 (in_front rows i before.0 before.1)) in
    let row = request_of (get_or rows i d) in
    let kinds_same : there.0.kind ≡ (get_or rows i d).kind = clash kinds index there.0 row (all.placed there.0 whole)
    (row_placed rows i d kinds lt all) there.2 (ap Some is) in
    let old = front.placed there.0 there.1 in
    let old_place : old.0 + 1 ≡ index + 1 = cc (old.1, there.2) in
    let same : old.0 ≡ index = omega (arith, old_place) in
    differs (rw (← same) (old.2 ∙ ap Some kinds_same))

gap_has_none : (rows : List Row) (i index : ℕ) (d : Row) (so_far kinds : List ArgKind) → i < length rows → IsRising rows
    → ByNumber (map request_of (take i rows)) so_far → (get_or rows i d).number ≡ index + 1 → length so_far < index
    → ByNumber (map request_of rows) kinds → ⊥
gap_has_none rows i index d so_far kinds lt rising front is past all =
    let placed = row_placed rows i d kinds lt all in
    let at : (get_or rows i d).number ≡ placed.0 + 1 = cc placed.1 in
    let within = slice_get_within kinds placed.0 (get_or rows i d).kind placed.2 in
    let missing : length so_far < length kinds = omega (arith, at, within, is, past) in
    let there = all.complete (length so_far) missing in
    let found = contains_map request_of rows there.0 there.1 in
    let number : found.0.number ≡ length so_far + 1 = cc (found.2, there.2) in
    elim (cases_lt found.1.0 i) [
      | inl before ↦
          let inside : Contains (take i rows) found.0 = (
            found.1.0,
            rw (length-take-le i rows (omega (arith, lt)))
                before,
            rw (get_or-take i rows found.1.0 found.0 before) found.1.2,
          ) in
          let old = front.placed (request_of found.0) (map_contains request_of (take i rows) found.0 inside) in
          let old_place : found.0.number ≡ old.0 + 1 = cc old.1 in
          absurd (omega (arith, old_place, number, slice_get_within so_far old.0 found.0.kind old.2))
      | inr later ↦
          let low : (get_or rows i found.0).number ≤ (get_or rows found.1.0 found.0).number = rising i found.1.0 found.0
          later found.1.1 in
          let here : (get_or rows i d).number ≡ (get_or rows i found.0).number = ap (λ (r : Row). r.number)
          (get_or_default rows i d found.0 lt) in
          let far : (get_or rows found.1.0 found.0).number ≡ found.0.number = ap (λ (r : Row). r.number) found.1.2 in
          absurd (omega (arith, low, here, far, number, is, past))
    ]

pub wrong_has_none : (rows : List Row) (i index : ℕ) (d : Row) (so_far kinds : List ArgKind) → i < length rows
    → IsRising rows → ByNumber (map request_of (take i rows)) so_far → (1 ≤ (get_or rows i d).number)
    × (index ≡ (get_or rows i d).number - 1) → (index ≡ length so_far → ⊥)
    → (slice_get so_far index ≡ Some (get_or rows i d).kind → ⊥) → ByNumber (map request_of rows) kinds → ⊥
wrong_has_none rows i index d so_far kinds lt rising front (some, at) not_next differs all =
    let is : (get_or rows i d).number ≡ index + 1 = omega arith in
    elim (cases_lt index (length so_far)) [
      | inl within ↦ clash_has_none rows i index d so_far kinds lt front is within differs all
      | inr past ↦ gap_has_none rows i index d so_far kinds lt rising front is (omega arith) all
    ]

-- one more row, if it fits the list
pub row_next : (rows : List Row) (i index : ℕ) (d : Row) (kinds new : List ArgKind) → i < length rows
    → ByNumber (map request_of (take i rows)) kinds → (1 ≤ (get_or rows i d).number)
    × (index ≡ (get_or rows i d).number - 1) → index ≡ length kinds → new ≡ kinds ++ (get_or rows i d).kind ∷ []
    → ByNumber (map request_of (take (i + 1) rows)) new
row_next rows i index d kinds new lt so_far (some, at) next e = rows_next rows i d kinds new lt so_far (omega arith) e

pub row_again : (rows : List Row) (i index : ℕ) (d : Row) (kinds : List ArgKind) → i < length rows
    → ByNumber (map request_of (take i rows)) kinds → (1 ≤ (get_or rows i d).number)
    × (index ≡ (get_or rows i d).number - 1) → slice_get kinds index ≡ Some (get_or rows i d).kind
    → ByNumber (map request_of (take (i + 1) rows)) kinds
row_again rows i index d kinds lt so_far (some, at) there = rows_again rows i index d kinds lt so_far (omega arith)
    there

-- ---- the list of what is kept

pub kept_in_order : (asked : List Request) (kept : Requests) → KeepsAsked asked kept → kept.numbered.items ≡ []
    → AsksFor asked kept.unnumbered.items
kept_in_order asked kept holds none =
    let all : asked ≡ map (λ kind. request None kind) kept.unnumbered.items = all_next asked (sym holds.numbered ∙ none)
    ∙ ap (λ (t : List ArgKind). map (λ kind. request None kind) t) (sym holds.unnumbered) in
    inl (subst (λ (t : List Request). InOrder t kept.unnumbered.items) (sym all) (next_in_order kept.unnumbered.items))

pub kept_mixed : (asked : List Request) (kept : Requests) (kinds : List ArgKind) → KeepsAsked asked kept
    → (kept.unnumbered.items ≡ [] → ⊥) → (kept.numbered.items ≡ [] → ⊥) → AsksFor asked kinds → ⊥
kept_mixed asked kept kinds holds next rows list = mixed asked kinds (λ e. next (holds.unnumbered ∙ e))
    (λ e. rows (holds.numbered ∙ e)) list

number_moved : (xs ys : List Request) (kinds : List ArgKind) → IsPermutation xs ys → ByNumber xs kinds
    → ByNumber ys kinds
number_moved xs ys kinds moves list = record {
  placed = λ r c. list.placed r (Contains-permutation ys xs r (IsPermutation-sym xs ys moves) c);
  complete = λ i lt. let there = list.complete i lt in (
    there.0,
    Contains-permutation xs ys there.0 moves there.1,
    there.2,
  );
}

kept_rows : (asked : List Request) (kept : Requests) → KeepsAsked asked kept → kept.unnumbered.items ≡ [] → asked
    ≡ map request_of kept.numbered.items
kept_rows asked kept holds none = all_rows asked (sym holds.unnumbered ∙ none)
    ∙ ap (λ (t : List Row). map request_of t) (sym holds.numbered)

pub kept_by_number : (asked : List Request) (kept : Requests) (sorted : List Row) (kinds : List ArgKind)
    → KeepsAsked asked kept → kept.unnumbered.items ≡ [] → IsPermutation kept.numbered.items sorted
    → ByNumber (map request_of sorted) kinds → AsksFor asked kinds
kept_by_number asked kept sorted kinds holds none moves list =
    let back = IsPermutation-sym (map request_of kept.numbered.items) (map request_of sorted)
    (IsPermutation-map request_of kept.numbered.items sorted moves) in
    inr (subst (λ (t : List Request). ByNumber t kinds) (sym (kept_rows asked kept holds none))
    (number_moved (map request_of sorted) (map request_of kept.numbered.items) kinds back list))

pub kept_has_none : (asked : List Request) (kept : Requests) (sorted : List Row) (kinds : List ArgKind)
    → KeepsAsked asked kept → kept.unnumbered.items ≡ [] → (kept.numbered.items ≡ [] → ⊥)
    → IsPermutation kept.numbered.items sorted → ((kinds : List ArgKind) → ByNumber (map request_of sorted) kinds → ⊥)
    → AsksFor asked kinds → ⊥
kept_has_none asked kept sorted kinds holds none some moves refused (inl order) =
    let there = one_row asked (λ e. some (holds.numbered ∙ e)) in
    cc (order.unnumbered there.0 there.2, there.3)
kept_has_none asked kept sorted kinds holds none some moves refused (inr number) =
    let list = subst (λ (t : List Request). ByNumber t kinds) (kept_rows asked kept holds none) number in
    refused kinds (number_moved (map request_of kept.numbered.items) (map request_of sorted) kinds
    (IsPermutation-map request_of kept.numbered.items sorted moves) list)

pub invalid_weaker : (fault : FormatFault) (P Q : Type 0) → (P → Q) → IsInvalidOnly fault P → IsInvalidOnly fault Q
invalid_weaker Invalid P Q f h = f h
invalid_weaker SystemDependent P Q f h = h
invalid_weaker Memory P Q f h = tt

pub none_from : {A : Type 0} (n : ℕ) (xs : List A) → n ≡ length xs → true ≡ (n == 0) → xs ≡ []
none_from n xs len e = nil_from_length xs (omega (arith, len, eqb-true n 0 (sym e)))

pub some_from : {A : Type 0} (n : ℕ) (xs : List A) → n ≡ length xs → false ≡ (n == 0) → xs ≡ [] → ⊥
some_from n xs len e none = eqb-false n 0 (sym e) (len ∙ ap length none)
