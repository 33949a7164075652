-- The outlines of a text in rising order: where a key occurs twice, and which entry repeats it first.
use Rattle.catalogue_drafts.proofs.Kit.{◌≡◌, ℕ, zero, suc, ◌+◌, ◌<◌, ◌≤◌, Bool, true, false, cond, List, [], ◌∷◌, ◌++◌}
use Rattle.catalogue_drafts.proofs.Kit.{length}
use Rattle.catalogue_drafts.proofs.Kit.{map, get_or, take, Ordering, refl, sym, ap, ◌∙◌, subst, arith, inl, inr}
use Rattle.catalogue_drafts.proofs.Kit.{Contains}
use Rattle.catalogue_drafts.proofs.Kit.{sum_by, sum_by-cons, nat_cmp, is_lt, Less, Equal, Greater, IsTotalOrder}
use Rattle.catalogue_drafts.proofs.Kit.{slice_cmp}
use Rattle.catalogue_drafts.proofs.Kit.{slice_cmp-IsAntisymmetric, nat_cmp-IsAntisymmetric, cases_lt, false≢true}
use Rattle.catalogue_drafts.proofs.Kit.{nat_list_cmp_total, get_or-map, length-map, get_or_default, key_of}
use Rattle.catalogue_drafts.proofs.Kit.{IsDuplicateAt}
use Rattle.catalogue_drafts.proofs.Kit.{HasDistinctKeys, Outline, outline_of, outlines_from, IsRepeat, IsFirstRepeat}
use Rattle.catalogue_drafts.proofs.Kit.{Options}
use Rattle.std.proofs.Common.{◌-◌, eqb, drop}
use Rattle.std.specs.List.Sorted.{IsPermutation, IsSortedBy}
use Rattle.std.specs.Ordering.{ordering_then, ordering_reverse}
use Rattle.std.specs.Cmp.{IsStrictWeakOrder}
use Rattle.std.proofs.lemmas.Bool.{eqb-true, eqb-false}
use Rattle.std.proofs.lemmas.Cmp.{tied_itself}
use Rattle.std.proofs.lemmas.List.{get_or-take, length-take-le, take-append-drop, drop_more}
use Rattle.std.proofs.lemmas.List.Sorted.{ranks_by, sorted_far, Contains-permutation, IsPermutation-sym}
use Rattle.std.proofs.lemmas.List.Sorted.{sum_by-IsPermutation}
use Rattle.po_text.specs.Entries as po
use Rattle.catalogue_drafts.specs.Drafts.{outline_cmp}
use Rattle.mo_image.proofs.Lists.{differs}
use Rattle.catalogue_drafts.proofs.OutlineOrder.{row_total}

abbrev pub outline_lt : Outline → Outline → Bool
outline_lt a b = is_lt (outline_cmp a b)

row_order : IsStrictWeakOrder outline_lt
row_order = ranks_by row_total (λ (r : Outline). r)

-- rs are the outlines of these entries, in order
pub record AreOrdered (o : Options) (entries : List po.Entry) (rs : List Outline) : Type 0 where
  pub same : IsPermutation (outlines_from o 0 entries) rs
  pub sorted : IsSortedBy outline_lt rs

-- ---- the outlines as they were read

pub length-outlines_from : (o : Options) (k : ℕ) (es : List po.Entry) → length (outlines_from o k es) ≡ length es
length-outlines_from o k [] = refl
length-outlines_from o k (e ∷ es) = ap suc (length-outlines_from o (k + 1) es)

pub outline_at : (o : Options) (k : ℕ) (es : List po.Entry) (i : ℕ) (d : Outline) (e : po.Entry) → i < length es
    → get_or (outlines_from o k es) i d ≡ outline_of o (k + i) (get_or es i e)
outline_at o k [] i d e lt = absurd (omega arith)
outline_at o k (x ∷ es) zero d e lt = ap (λ n. outline_of o n x) (omega arith)
outline_at o k (x ∷ es) (suc i) d e lt = outline_at o (k + 1) es i d e (omega arith)
    ∙ ap (λ n. outline_of o n (get_or es i e)) (omega arith)

-- the outline of the i-th entry is among the sorted outlines, at some index
pub record Stands (o : Options) (rs : List Outline) (i : ℕ) (e : po.Entry) : Type 0 where
  pub index : ℕ
  pub within : index < length rs
  pub is : (d : Outline) → get_or rs index d ≡ outline_of o i e

pub stands : (o : Options) (entries : List po.Entry) (rs : List Outline) → AreOrdered o entries rs
    → (i : ℕ) (e : po.Entry) → i < length entries → Stands o rs i (get_or entries i e)
stands o entries rs ordered i e lt =
    let r = outline_of o i (get_or entries i e) in
    let at : get_or (outlines_from o 0 entries) i r ≡ r = outline_at o 0 entries i r e lt
    ∙ ap (λ n. outline_of o n (get_or entries i e)) (omega arith) in
    let found : Contains rs r = Contains-permutation (outlines_from o 0 entries) rs r ordered.same
    (i, omega (arith, length-outlines_from o 0 entries), at) in
    record { index = found.0; within = found.1; is = λ d. get_or_default rs found.0 d r found.1 ∙ found.2 }

-- each outline is that of an entry
pub record Comes (o : Options) (entries : List po.Entry) (r : Outline) : Type 0 where
  pub number : ℕ
  pub within : number < length entries
  pub is : (e : po.Entry) → r ≡ outline_of o number (get_or entries number e)

pub comes : (o : Options) (entries : List po.Entry) (rs : List Outline) → AreOrdered o entries rs → (r : Outline)
    → Contains rs r → Comes o entries r
comes o entries rs ordered r has =
    let found : Contains (outlines_from o 0 entries) r = Contains-permutation rs (outlines_from o 0 entries) r
    (IsPermutation-sym (outlines_from o 0 entries) rs ordered.same) has in
    let lt : found.0 < length entries = omega (arith, found.1, length-outlines_from o 0 entries) in
    record {
      number = found.0;
      within = lt;
      is = λ e. sym found.2 ∙ outline_at o 0 entries found.0 r e lt
          ∙ ap (λ n. outline_of o n (get_or entries found.0 e)) (omega arith);
    }

-- ---- comparing keys

abbrev key_total : IsTotalOrder (slice_cmp nat_cmp)
key_total = nat_list_cmp_total

equal_keys : (a b : List ℕ) → slice_cmp nat_cmp a b ≡ Equal → a ≡ b
equal_keys a b e = slice_cmp-IsAntisymmetric nat_cmp-IsAntisymmetric a b e

-- what comes first by its key alone
not_less : (a b : Outline) → outline_lt a b ≡ false → slice_cmp nat_cmp a.key b.key ≡ Less → ⊥
not_less a b later less = false≢true (sym later ∙ ap (λ (o : Ordering). is_lt
    (ordering_then o (nat_cmp a.number b.number))) less)

-- with equal keys, by the numbers
number_after : (a b : Outline) → outline_lt a b ≡ false → a.key ≡ b.key → b.number ≤ a.number
number_after a b later same =
    let tie : slice_cmp nat_cmp a.key b.key ≡ Equal = ap (λ k. slice_cmp nat_cmp k b.key) same
    ∙ tied_itself key_total b.key in
    let test : is_lt (nat_cmp a.number b.number) ≡ false = sym
    (ap (λ (o : Ordering). is_lt (ordering_then o (nat_cmp a.number b.number))) tie) ∙ later in
    elim (cases_lt a.number b.number) [
      | inl lt ↦ absurd (false≢true (sym test ∙ less_is a.number b.number lt))
      | inr le ↦ le
    ]
  where
    less_is : (m n : ℕ) → m < n → is_lt (nat_cmp m n) ≡ true
    less_is m n lt = rw (Rattle.std.proofs.lemmas.Bool.lt-ltb m n lt) refl

by_order : (a b : List ℕ) (x : Ordering) → slice_cmp nat_cmp a b ≡ x → (x ≡ Less → ⊥) → (ordering_reverse x ≡ Less → ⊥)
    → x ≡ Equal
by_order a b Less e l g = absurd (l refl)
by_order a b Equal e l g = refl
by_order a b Greater e l g = absurd (g refl)

-- all outlines between two with one key have this key
between : (x y z : Outline) → outline_lt y x ≡ false → outline_lt z y ≡ false → x.key ≡ z.key → y.key ≡ z.key
between x y z xy yz same =
    let yx : slice_cmp nat_cmp y.key z.key ≡ Less → ⊥ = λ less. not_less y x xy
    (ap (slice_cmp nat_cmp y.key) same ∙ less) in
    let zy : ordering_reverse (slice_cmp nat_cmp y.key z.key) ≡ Less
    → ⊥ = λ less. not_less z y yz (key_total.antisymm z.key y.key ∙ less) in
    equal_keys y.key z.key (by_order y.key z.key _ refl yx zy)

-- ---- two entries with one key

-- the outline of the later of two entries with one key follows an outline with this key
pub record Repeats (rs : List Outline) (number : ℕ) : Type 0 where
  pub index : ℕ
  pub repeats : IsRepeat rs index
  pub number_is : (d : Outline) → (get_or rs (index + 1) d).number ≡ number

in_order : (o : Options) (rs : List Outline) → IsSortedBy outline_lt rs → (a b : ℕ) (x y : po.Entry) → a < b → key_of x
    ≡ key_of y → (p : Stands o rs a x) (q : Stands o rs b y) → p.index < q.index
in_order o rs sorted a b x y less same p q =
    elim (cases_lt p.index q.index) [
      | inl lt ↦ lt
      | inr le ↦
          let d = outline_of o a x in
          let far : outline_lt (get_or rs p.index d) (get_or rs q.index d)
          ≡ false = sorted_far outline_lt row_order rs sorted q.index p.index d le p.within in
          let later : outline_lt (outline_of o a x) (outline_of o b y)
          ≡ false = sym (ap (λ r. outline_lt r (outline_of o b y)) (p.is d))
          ∙ sym (ap (outline_lt (get_or rs p.index d)) (q.is d)) ∙ far in
          let le2 : b ≤ a = number_after (outline_of o a x) (outline_of o b y) later same in
          absurd (omega (arith, le2))
    ]

pub repeated : (o : Options) (rs : List Outline) → IsSortedBy outline_lt rs → (a b : ℕ) (x y : po.Entry) → a < b
    → key_of x ≡ key_of y → Stands o rs a x → Stands o rs b y → Repeats rs b
repeated o rs sorted a b x y less same p q =
    let lt : p.index < q.index = in_order o rs sorted a b x y less same p q in
    let k : ℕ = q.index - 1 in
    let next : k + 1 ≡ q.index = omega arith in
    let at : (d : Outline) → get_or rs (k + 1) d ≡ outline_of o b y = λ d. ap (λ i. get_or rs i d) next ∙ q.is d in
    let key_at : (d : Outline) → (get_or rs k d).key ≡ key_of y = λ d.
    let far : outline_lt (get_or rs k d) (get_or rs p.index d)
    ≡ false = sorted_far outline_lt row_order rs sorted p.index k d (omega arith) (omega (arith, q.within)) in
    let near : outline_lt (get_or rs q.index d) (get_or rs k d)
    ≡ false = sorted_far outline_lt row_order rs sorted k q.index d (omega arith) q.within in
    between (outline_of o a x) (get_or rs k d) (outline_of o b y) (sym (ap (outline_lt (get_or rs k d)) (p.is d)) ∙ far)
    (sym (ap (λ r. outline_lt r (get_or rs k d)) (q.is d)) ∙ near) same in
    record {
      index = k;
      repeats = record {
        within = omega (arith, q.within);
        same = λ d. key_at d
            ∙ sym (ap (λ (r : Outline). r.key) (at d));
      };
      number_is = λ d. ap (λ (r : Outline). r.number) (at d);
    }

key_at : (es : List po.Entry) (i : ℕ) (d : List ℕ) (e : po.Entry) → i < length es → get_or (map key_of es) i d
    ≡ key_of (get_or es i e)
key_at es i d e lt = get_or-map key_of es i e d lt

-- all entries are different if no repeat has a number below n
distinct_below : (o : Options) (entries : List po.Entry) (rs : List Outline) → AreOrdered o entries rs → (n : ℕ)
    → n ≤ length entries → ((b : ℕ) → b < n → Repeats rs b → ⊥) → HasDistinctKeys (take n entries)
distinct_below o [] rs ordered n le none i j d lt within same = absurd
    (omega (arith, within, length-map (take n []) key_of, length-take-le {A = po.Entry} n [] le, le, lt))
distinct_below o (e ∷ es) rs ordered n le none i j d lt within same =
    let entries : List po.Entry = e ∷ es in
    let short : j < n = omega (arith, within, length-map (take n entries) key_of, length-take-le n entries le) in
    let inside : (k : ℕ) → k < n → get_or (map key_of (take n entries)) k d ≡ key_of (get_or entries k e) = λ k kn.
    key_at (take n entries) k d e (omega (arith, kn, length-take-le n entries le))
    ∙ ap key_of (get_or-take n entries k e kn) in
    let keys : key_of (get_or entries i e) ≡ key_of (get_or entries j e) = sym (inside i (omega arith)) ∙ same
    ∙ inside j short in
    none j short (repeated o rs ordered.sorted i j (get_or entries i e) (get_or entries j e) lt keys
    (stands o entries rs ordered i e (omega (arith, short, le)))
    (stands o entries rs ordered j e (omega (arith, short, le))))

take_all : {X : Type 0} (xs : List X) → take (length xs) xs ≡ xs
take_all [] = refl
take_all (x ∷ xs) = ap (λ ys. x ∷ ys) (take_all xs)

pub all_distinct : (o : Options) (entries : List po.Entry) (rs : List Outline) → AreOrdered o entries rs
    → ((j : ℕ) → ¬ IsRepeat rs j) → HasDistinctKeys entries
all_distinct o entries rs ordered none = subst HasDistinctKeys (take_all entries)
    (distinct_below o entries rs ordered (length entries) (omega arith) (λ b lt r. none r.index r.repeats))

-- ---- no number occurs twice

numbered : ℕ → Outline → Bool
numbered n r = eqb r.number n

abbrev counts : ℕ → Outline → ℕ
counts n r = cond (eqb r.number n) 1 0

later_none : (o : Options) (k n : ℕ) (es : List po.Entry) → n < k → sum_by (counts n) (outlines_from o k es) ≡ 0
later_none o k n [] lt = refl
later_none o k n (e ∷ es) lt =
    let no : eqb k n ≡ false = differs k n (λ e. omega (arith, e)) in
    sum_by-cons (counts n) (outline_of o k e) (outlines_from o (k + 1) es)
    ∙ rw no (omega (arith, later_none o (k + 1) n es (omega arith)))

one_number : (o : Options) (k n : ℕ) (es : List po.Entry) → sum_by (counts n) (outlines_from o k es) ≤ 1
one_number o k n [] = omega arith
one_number o k n (e ∷ es) =
    let split = sum_by-cons (counts n) (outline_of o k e) (outlines_from o (k + 1) es) in
    elim (eqb k n) as (λ b. eqb k n ≡ b → sum_by (counts n) (outlines_from o k (e ∷ es)) ≤ 1) [
      | true ↦ λ t. let same : k ≡ n = eqb-true k n t in
          let c : counts n (outline_of o k e) ≡ 1 = rw t refl in
          omega (arith, split, c, later_none o (k + 1) n es (omega (arith, same)))
      | false ↦ λ f. let c : counts n (outline_of o k e) ≡ 0 = rw f refl in omega
          (arith, split, c, one_number o (k + 1) n es)
    ] refl

at_least : (f : Outline → ℕ) (rs : List Outline) (i : ℕ) (d : Outline) → i < length rs → f (get_or rs i d) ≤ sum_by f rs
at_least f [] i d lt = absurd (omega arith)
at_least f (x ∷ rs) zero d lt = omega (arith, sum_by-cons f x rs)
at_least f (x ∷ rs) (suc i) d lt = omega (arith, sum_by-cons f x rs, at_least f rs i d (omega arith))

two_of : (f : Outline → ℕ) (rs : List Outline) (i : ℕ) (d : Outline) → i + 1 < length rs
    → f (get_or rs i d) + f (get_or rs (i + 1) d) ≤ sum_by f rs
two_of f [] i d lt = absurd (omega arith)
two_of f (x ∷ rs) zero d lt = omega (arith, sum_by-cons f x rs, at_least f rs 0 d (omega arith))
two_of f (x ∷ rs) (suc i) d lt =
    let after : suc i + 1 ≡ suc (i + 1) = omega arith in
    let next : f (get_or (x ∷ rs) (suc i + 1) d) ≡ f (get_or rs (i + 1) d) = ap (λ k. f (get_or (x ∷ rs) k d)) after in
    let rest : f (get_or rs i d) + f (get_or rs (i + 1) d) ≤ sum_by f rs = two_of f rs i d (omega arith) in
    let here : f (get_or (x ∷ rs) (suc i) d) ≡ f (get_or rs i d) = refl in
    omega (arith, sum_by-cons f x rs, rest, next, here)

same_number : (n : ℕ) (r : Outline) → r.number ≡ n → counts n r ≡ 1
same_number n r e = elim (eqb r.number n) as (λ b. eqb r.number n ≡ b → cond {A = ℕ} b 1 0 ≡ 1)
    [ true ↦ λ t. refl | false ↦ λ f. absurd (eqb-false r.number n f e) ] refl

neighbours_differ : (o : Options) (entries : List po.Entry) (rs : List Outline) → AreOrdered o entries rs
    → (i : ℕ) (d : Outline) → i + 1 < length rs → (get_or rs i d).number ≡ (get_or rs (i + 1) d).number → ⊥
neighbours_differ o entries rs ordered i d lt same =
    let n : ℕ = (get_or rs (i + 1) d).number in
    let two = two_of (counts n) rs i d lt in
    let a = same_number n (get_or rs i d) same in
    let b = same_number n (get_or rs (i + 1) d) refl in
    let all = sum_by-IsPermutation (counts n) (outlines_from o 0 entries) rs ordered.same in
    omega (arith, two, a, b, all, one_number o 0 n entries)

-- ---- the first repeat is the first duplicate

pub first_duplicate : (o : Options) (entries : List po.Entry) (rs : List Outline) → AreOrdered o entries rs
    → (r : Outline) → IsFirstRepeat rs (length rs) r → IsDuplicateAt entries r.line
first_duplicate o [] rs ordered r first =
    let none = (comes o [] rs ordered r (first.index + 1, first.within, first.row_is r)).within in
    absurd (omega (arith, none))
first_duplicate o (x ∷ es) rs ordered r first =
    let entries : List po.Entry = x ∷ es in
    let i : ℕ = first.index in
    let lt : i + 1 < length rs = first.within in
    let here : Comes o entries r = comes o entries rs ordered r (i + 1, lt, first.row_is r) in
    let there : Comes o entries (get_or rs i r) = comes o entries rs ordered (get_or rs i r)
    (i, omega arith, get_or_default rs i (get_or rs i r) r (omega arith)) in
    let n : ℕ = here.number in
    let a : ℕ = there.number in
    let e : po.Entry = get_or entries n x in
    let y : po.Entry = get_or entries a x in
    let r_is : r ≡ outline_of o n e = here.is x in
    let y_is : get_or rs i r ≡ outline_of o a y = there.is x in
    let same : key_of y ≡ key_of e = sym (ap (λ (w : Outline). w.key) y_is) ∙ first.repeats.same r
    ∙ ap (λ (w : Outline). w.key) (first.row_is r) ∙ ap (λ (w : Outline). w.key) r_is in
    let order : outline_lt (get_or rs (i + 1) r) (get_or rs i r) ≡ false = ordered.sorted i r (omega arith) lt in
    let le : (get_or rs i r).number ≤ (get_or rs (i + 1) r).number = number_after (get_or rs (i + 1) r) (get_or rs i r)
    order (sym (first.repeats.same r)) in
    let a_is : (get_or rs i r).number ≡ a = ap (λ (w : Outline). w.number) y_is in
    let n_is : (get_or rs (i + 1) r).number ≡ n = ap (λ (w : Outline). w.number) (first.row_is r ∙ r_is) in
    let r_number : r.number ≡ n = ap (λ (w : Outline). w.number) r_is in
    let less : a < n = elim (cases_lt a n) [
      | inl less ↦ less
      | inr more ↦ absurd (neighbours_differ o entries rs ordered i r lt (omega (arith, le, a_is, n_is, more)))
    ] in
    let short : length (take n entries) ≡ n = length-take-le n entries (omega (arith, here.within)) in
    record {
      before = take n entries;
      e = e;
      after = drop (n + 1) entries;
      split = sym (take-append-drop n entries) ∙ ap (λ (t : List po.Entry). take n entries ++ t)
          (drop_more entries n x here.within);
      distinct_before = distinct_below o entries rs ordered n (omega (arith, here.within)) (λ b below again.
          let least = first.first again.index r again.repeats.within again.repeats in
          let number = again.number_is r in
          omega (arith, below, least, number, r_number));
      again = (
        a,
        omega (arith, less, length-map (take n entries) key_of, short),
        key_at (take n entries) a (key_of e) x
            (omega (arith, less, short)) ∙ ap key_of (get_or-take n entries a x less) ∙ same,
      );
      line_is = ap (λ (w : Outline). w.line) r_is;
    }
