-- The first repeat among outlines, found pair by pair.
use Rattle.std.proofs.Common.{◌≡◌, ℕ, ◌+◌, ◌-◌, ◌<◌, ◌≤◌, Bool, true, false, List, length, get_or, Option, Some, None}
use Rattle.std.proofs.Common.{refl, sym, ap, ◌∙◌, subst, arith, inl, inr}
use Rattle.std.proofs.lemmas.Bool.{cases_lt, ltb-true, false≢true}
use Rattle.std.proofs.lemmas.Bool.Decides.{nat_tests}
use Rattle.std.proofs.lemmas.List.{length-map, get_or-map}
use Rattle.std.proofs.lemmas.Slice.Eq.{bytes_eq-Decides}
use Rattle.std.specs.Str.{bytes_eq}
use Rattle.catalogue_drafts.specs.Drafts.{Outline, outline, outlines, IsRepeat, IsFirstRepeat, FirstRepeat, is_earlier}
use Rattle.catalogue_drafts.specs.Drafts.{earlier_repeat}
use Rattle.catalogue_drafts.specs.declared.draft.Draft.{Draft}

-- what holds for the pairs before i and for the one that ends at i holds for those up to i
up_to : (P : ℕ → Type 0) (i : ℕ) → 1 ≤ i → ((j : ℕ) → j + 1 < i → P j) → P (i - 1) → (j : ℕ) → j + 1 < i + 1 → P j
up_to P i some before here j lt =
    elim (cases_lt (j + 1) i) [
      | inl less ↦ before j less
      | inr at ↦ let same : i - 1 ≡ j = omega arith in subst P same here
    ]

-- what is known when the outline r at i is compared with the one before it
pub record Looks (rs : List Outline) (i : ℕ) (before r : Outline) : Type 0 where
  pub some : 1 ≤ i
  pub within : i < length rs
  pub before_is : (d : Outline) → get_or rs (i - 1) d ≡ before
  pub row_is : (d : Outline) → get_or rs i d ≡ r

behind : (rs : List Outline) (i : ℕ) (before r : Outline) → Looks rs i before r → (d : Outline)
    → get_or rs (i - 1 + 1) d ≡ r
behind rs i before r l d = let e : i - 1 + 1 ≡ i = omega (arith, l.some) in ap (λ k. get_or rs k d) e ∙ l.row_is d

repeat_here : (rs : List Outline) (i : ℕ) (before r : Outline) → Looks rs i before r → before.key ≡ r.key
    → IsRepeat rs (i - 1)
repeat_here rs i before r l same = record {
  within = omega (arith, l.some, l.within);
  same = λ d. ap (λ (x : Outline). x.key) (l.before_is d) ∙ same
      ∙ sym (ap (λ (x : Outline). x.key) (behind rs i before r l d));
}

same_here : (rs : List Outline) (i : ℕ) (before r : Outline) → Looks rs i before r → IsRepeat rs (i - 1) → before.key
    ≡ r.key
same_here rs i before r l repeats = sym (ap (λ (x : Outline). x.key) (l.before_is r)) ∙ repeats.same r
    ∙ ap (λ (x : Outline). x.key) (behind rs i before r l r)

-- no earlier outline comes first in the text
abbrev LeastBefore : List Outline → ℕ → ℕ → Type 0
LeastBefore rs i n = (j : ℕ) → j + 1 < i → (d : Outline) → IsRepeat rs j → n ≤ (get_or rs (j + 1) d).number

least_before : (rs : List Outline) (i : ℕ) (r : Outline) (first : Option Outline) → FirstRepeat rs i first
    → is_earlier r first ≡ true → LeastBefore rs i r.number
least_before rs i r None none is_first j lt d repeats = absurd (none j lt repeats)
least_before rs i r (Some other) found is_first j lt d repeats =
    let less : r.number < other.number = ltb-true _ _ is_first in
    let least = found.first j d lt repeats in
    omega (arith, less, least)

taken : (rs : List Outline) (i : ℕ) (before r : Outline) (first : Option Outline) → Looks rs i before r → before.key
    ≡ r.key → is_earlier r first ≡ true → FirstRepeat rs i first → IsFirstRepeat rs (i + 1) r
taken rs i before r first l same is_first so_far = record {
  index = i - 1;
  within = omega (arith, l.some);
  repeats = repeat_here rs i before r l same;
  row_is = behind rs i before r l;
  first = λ j d lt repeats. up_to (λ k. (d : Outline) → IsRepeat rs k → r.number ≤ (get_or rs (k + 1) d).number) i
      l.some (least_before rs i r first so_far is_first)
      (λ d _. let e = ap (λ (x : Outline). x.number) (behind rs i before r l d) in omega (arith, e)) j lt d repeats;
}

-- the first repeat stays, if the pair is no repeat or comes later
stays : (rs : List Outline) (i : ℕ) (first : Option Outline) → 1 ≤ i → FirstRepeat rs i first
    → ((other : Outline) → first ≡ Some other → IsRepeat rs (i - 1) → (d : Outline)
    → other.number ≤ (get_or rs (i - 1 + 1) d).number) → (first ≡ None → ¬ IsRepeat rs (i - 1))
    → FirstRepeat rs (i + 1) first
stays rs i None some none later nothing = up_to (λ k. ¬ IsRepeat rs k) i some none (nothing refl)
stays rs i (Some other) some found later nothing = record {
  index = found.index;
  within = omega (arith, found.within);
  repeats = found.repeats;
  row_is = found.row_is;
  first = λ j d lt repeats. up_to (λ k. (d : Outline) → IsRepeat rs k → other.number ≤ (get_or rs (k + 1) d).number) i
      some (λ j lt d repeats. found.first j d lt repeats) (λ d repeats. later other refl repeats d) j lt d repeats;
}

some_same : (a b : Outline) → Some a ≡ Some b → a ≡ b
some_same a b e = cc

no_none : (r : Outline) (first : Option Outline) → is_earlier r first ≡ false → first ≡ None → ⊥
no_none r None e n = absurd cc
no_none r (Some other) e n = absurd cc

not_less : (r : Outline) (first : Option Outline) (other : Outline) → is_earlier r first ≡ false → first ≡ Some other
    → other.number ≤ r.number
not_less r None other e s = absurd cc
not_less r (Some x) other e s = let same : x ≡ other = some_same x other s in subst
    (λ (y : Outline). y.number ≤ r.number) same (grind (arith, nat_tests))

choose : (rs : List Outline) (i : ℕ) (before r : Outline) (first : Option Outline) (t u : Bool)
    → bytes_eq before.key r.key ≡ t → is_earlier r first ≡ u → Looks rs i before r → FirstRepeat rs i first
    → FirstRepeat rs (i + 1) (earlier_repeat before r first)
choose rs i before r first true true et eu l so_far =
    rw (et, eu) (taken rs i before r first l ((bytes_eq-Decides before.key r.key).0 et) eu so_far)
choose rs i before r first true false et eu l so_far =
    rw (et, eu) (stays rs i first l.some so_far
    (λ other is repeats d. let e = ap (λ (x : Outline). x.number) (behind rs i before r l d) in omega
    (arith, e, not_less r first other eu is))
    (λ n. absurd (no_none r first eu n)))
choose rs i before r first false u et eu l so_far =
    let differ : IsRepeat rs (i - 1) → ⊥ = λ repeats. false≢true
    (sym et ∙ (bytes_eq-Decides before.key r.key).1 (same_here rs i before r l repeats)) in
    rw et (stays rs i first l.some so_far (λ other is repeats d. absurd (differ repeats)) (λ _. differ))

pub first_none : (rs : List Outline) → FirstRepeat rs 1 None
first_none rs j lt = absurd (omega arith)

pub first_more : (ds : List Draft) (i : ℕ) (before d : Draft) (first next : Option Outline) → 1 ≤ i → i < length ds
    → before ≡ get_or ds (i - 1) before → d ≡ get_or ds i d → next ≡ earlier_repeat (outline before) (outline d) first
    → FirstRepeat (outlines ds) i first → FirstRepeat (outlines ds) (i + 1) next
first_more ds i before d first next some within before_is d_is next_is so_far =
    rw next_is (choose (outlines ds) i (outline before) (outline d) first _ _ refl refl (record {
      some = some;
      within = omega (arith, length-map ds outline);
      before_is = λ e. get_or-map outline ds (i - 1) before e (omega arith) ∙ ap outline (sym before_is);
      row_is = λ e. get_or-map outline ds i d e within ∙ ap outline (sym d_is);
    }) so_far)

pub first_all : (ds : List Draft) (i : ℕ) (first : Option Outline) → length ds ≤ i → FirstRepeat (outlines ds) i first
    → FirstRepeat (outlines ds) (length ds) first
first_all ds i None le none = λ j lt. none j (omega (arith, lt, le))
first_all ds i (Some r) le found = record {
  index = found.index;
  within = omega (arith, found.repeats.within, length-map ds outline);
  repeats = found.repeats;
  row_is = found.row_is;
  first = λ j d lt repeats. found.first j d (omega (arith, lt, le)) repeats;
}
