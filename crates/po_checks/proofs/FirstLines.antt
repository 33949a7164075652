-- The first entry for which something holds.
use Rattle.std.proofs.Common.{◌≡◌, ℕ, zero, suc, Bool, true, false, List, [], ◌∷◌, ◌++◌, Option, Some, None, refl, sym}
use Rattle.std.proofs.Common.{ap, ◌∙◌, subst, append_assoc, inl, inr, arith}
use Rattle.std.specs.Prelude.{◌⊎◌, ◌↔◌, IsTrue}
use Rattle.std.specs.List.{Any}
use Rattle.std.proofs.lemmas.Bool.{false≢true}
use Rattle.po_text.specs.Entries as po
use Rattle.po_checks.specs.Checks.{NoneOf, FirstAt}
use Rattle.po_checks.specs.Found.{FirstLine}
use Rattle.po_checks.specs.Findings.{first_or}

-- ---- lists in which it holds nowhere

pub none_in : (P : po.Entry → Type 0) (a : List po.Entry) (x : po.Entry) (b : List po.Entry) → NoneOf P (a ++ x ∷ b)
    → P x → ⊥
none_in P [] x b none p = none.0 p
none_in P (y ∷ a) x b none p = none_in P a x b none.1 p

none_push : (P : po.Entry → Type 0) (es : List po.Entry) (e : po.Entry) → NoneOf P es → ¬ P e → NoneOf P (es ++ e ∷ [])
none_push P [] e none not_e = (not_e, tt)
none_push P (x ∷ es) e none not_e = (none.0, none_push P es e none.1 not_e)

pub first_not_none : (P : po.Entry → Type 0) (es : List po.Entry) (line : ℕ) → FirstAt P es line → NoneOf P es → ⊥
first_not_none P es line f none = none_in P f.before f.e f.after (subst (NoneOf P) f.split none) f.holds

-- if P holds for no entry, neither does anything that implies P
pub none_weaker : (P Q : po.Entry → Type 0) → ((e : po.Entry) → Q e → P e) → (es : List po.Entry) → NoneOf P es
    → NoneOf Q es
none_weaker P Q w [] none = tt
none_weaker P Q w (e ∷ es) none = ((λ q. none.0 (w e q)), none_weaker P Q w es none.1)

-- ---- one line

-- of two cuts of a list one comes before the other, or they are equal
abbrev pub Cut : List po.Entry → po.Entry → List po.Entry → po.Entry → Type 0
Cut a x b y = (x ≡ y) ⊎ (((mid : List po.Entry) × (b ≡ a ++ x ∷ mid)) ⊎ ((mid : List po.Entry) × (a ≡ b ++ y ∷ mid)))

pub cuts : (a b : List po.Entry) (x y : po.Entry) (c d : List po.Entry) → a ++ x ∷ c ≡ b ++ y ∷ d → Cut a x b y
cuts [] [] x y c d e = inl (cc e)
cuts [] (z ∷ b) x y c d e = let head : x ≡ z = cc e in inr (inl (b, ap (λ (w : po.Entry). w ∷ b) (sym head)))
cuts (z ∷ a) [] x y c d e = let head : z ≡ y = cc e in inr (inr (a, ap (λ (w : po.Entry). w ∷ a) head))
cuts (z ∷ a) (w ∷ b) x y c d e =
    let head : z ≡ w = cc e in
    elim (cuts a b x y c d (cc e)) [
      | inl same ↦ inl same
      | inr (inl (mid, is)) ↦ inr (inl (mid, cc (head, is)))
      | inr (inr (mid, is)) ↦ inr (inr (mid, cc (head, is)))
    ]

pub first_one : (P : po.Entry → Type 0) (es : List po.Entry) (line m : ℕ) → FirstAt P es line → FirstAt P es m → line
    ≡ m
first_one P es line m p q = elim (cuts p.before q.before p.e q.e p.after q.after (sym p.split ∙ q.split)) [
  | inl same ↦ p.line_is ∙ ap (λ (e : po.Entry). e.line) same ∙ sym q.line_is
  | inr (inl (mid, is)) ↦ absurd (none_in P p.before p.e mid (subst (NoneOf P) is q.none_before) p.holds)
  | inr (inr (mid, is)) ↦ absurd (none_in P q.before q.e mid (subst (NoneOf P) is p.none_before) q.holds)
]

-- ---- one more entry

first_behind : (P : po.Entry → Type 0) (es : List po.Entry) (e : po.Entry) (line : ℕ) → FirstAt P es line
    → FirstAt P (es ++ e ∷ []) line
first_behind P es e line f = record {
  before = f.before;
  e = f.e;
  after = f.after ++ e ∷ [];
  split = ap (λ (xs : List po.Entry). xs ++ (e ∷ [])) f.split ∙ append_assoc f.before (f.e ∷ f.after) (e ∷ []);
  none_before = f.none_before;
  holds = f.holds;
  line_is = f.line_is;
}

pub first_more : (P : po.Entry → Type 0) (e : po.Entry) (fails : Bool) → (IsTrue fails ↔ P e)
    → (found : Option ℕ) (es : List po.Entry) → FirstLine P es found
    → FirstLine P (es ++ e ∷ []) (first_or found fails e.line)
first_more P e fails is (Some line) es f = first_behind P es e line f
first_more P e true is None es none = record {
  before = es;
  e = e;
  after = [];
  split = refl;
  none_before = none;
  holds =
      is.0 refl;
  line_is = refl;
}
first_more P e false is None es none = none_push P es e none (λ p. false≢true (is.1 p))

pub first_skip : (P : po.Entry → Type 0) (e : po.Entry) → ¬ P e → (found : Option ℕ) (es : List po.Entry)
    → FirstLine P es found → FirstLine P (es ++ e ∷ []) found
first_skip P e not_e (Some line) es f = first_behind P es e line f
first_skip P e not_e None es none = none_push P es e none not_e

-- ---- some element

pub any_head : {X : Type 0} (P : X → Type 0) (x : X) (xs : List X) → P x → Any P (x ∷ xs)
any_head P x xs p = (zero, x, omega arith, refl, p)

pub any_tail : {X : Type 0} (P : X → Type 0) (x : X) (xs : List X) → Any P xs → Any P (x ∷ xs)
any_tail P x xs (k, y, lt, is, p) = (suc k, y, omega (arith, lt), is, p)

pub any_cases : {X : Type 0} (P : X → Type 0) (x : X) (xs : List X) → Any P (x ∷ xs) → P x ⊎ Any P xs
any_cases P x xs (zero, y, lt, is, p) = inl (subst P (sym is) p)
any_cases P x xs (suc k, y, lt, is, p) = inr (k, y, omega (arith, lt), is, p)

pub any_none : {X : Type 0} (P : X → Type 0) → Any P [] → ⊥
any_none P (k, y, lt, is, p) = omega (arith, lt)

pub any_left : {X : Type 0} (P : X → Type 0) (xs ys : List X) → Any P xs → Any P (xs ++ ys)
any_left P [] ys a = absurd (any_none P a)
any_left P (x ∷ xs) ys a = elim (any_cases P x xs a) [
  | inl p ↦ any_head P x (xs ++ ys) p
  | inr b ↦ any_tail P x
      (xs ++ ys) (any_left P xs ys b)
]

pub any_right : {X : Type 0} (P : X → Type 0) (xs ys : List X) → Any P ys → Any P (xs ++ ys)
any_right P [] ys a = a
any_right P (x ∷ xs) ys a = any_tail P x (xs ++ ys) (any_right P xs ys a)

pub any_append_cases : {X : Type 0} (P : X → Type 0) (xs ys : List X) → Any P (xs ++ ys) → Any P xs ⊎ Any P ys
any_append_cases P [] ys a = inr a
any_append_cases P (x ∷ xs) ys a = elim (any_cases P x (xs ++ ys) a) [
  | inl p ↦ inl (any_head P x xs p)
  | inr b ↦ elim (any_append_cases P xs ys b) [ inl l ↦ inl (any_tail P x xs l) | inr r ↦ inr r ]
]

pub any_weaker : {X : Type 0} (P Q : X → Type 0) → ((x : X) → P x → Q x) → (xs : List X) → Any P xs → Any Q xs
any_weaker P Q w xs (k, y, lt, is, p) = (k, y, lt, is, w y p)

pub any_from_first : (P : po.Entry → Type 0) (es : List po.Entry) (line : ℕ) → FirstAt P es line → Any P es
any_from_first P es line f = subst (Any P) (sym f.split) (any_right P f.before (f.e ∷ f.after)
    (any_head P f.e f.after f.holds))

pub any_not_none : (P : po.Entry → Type 0) (es : List po.Entry) → NoneOf P es → Any P es → ⊥
any_not_none P [] none a = any_none P a
any_not_none P (e ∷ es) none a = elim (any_cases P e es a) [ inl p ↦ none.0 p | inr b ↦ any_not_none P es none.1 b ]
