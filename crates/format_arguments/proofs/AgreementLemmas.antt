-- Named arguments that agree strictly: by each name both formats ask for one kind.
use Rattle.std.proofs.Common.{◌≡◌, ℕ, Bool, true, false, List, [], ◌∷◌, Option, None, Some, refl, sym, subst, ◌∙◌}
use Rattle.std.proofs.Common.{inl, inr}
use Rattle.std.specs.Prelude.{◌⊎◌, Contains}
use Rattle.std.specs.List.{list_all, list_any}
use Rattle.std.proofs.lemmas.Bool.{cases_Bool, and_parts}
use Rattle.std.proofs.lemmas.List.Folds.{list_all_at}
use Rattle.std.proofs.lemmas.List.Elements.{Contains-append_left, Contains-append_right, Contains-push}
use Rattle.std.proofs.lemmas.Slice.Eq.{bytes_eq-Decides}
use Rattle.format_arguments.specs.declared.Kind.{Kind}
use Rattle.format_arguments.specs.declared.Kind.TheVariants.{Any}
use Rattle.format_arguments.specs.declared.Strictness.TheVariants.{Same, Lenient}
use Rattle.format_arguments.specs.Arguments.{kinds_fit, are_compatible, all_compatible, named_in}
use Rattle.format_arguments.specs.Arguments.{Argument, HasKind, is_any, same_kind, names_same, same_name, stands_for}
use Rattle.format_arguments.specs.Arguments.{are_covered, named_agree}

pub all_at : {X : Type 0} (p : X → Bool) (xs : List X) (x : X) → list_all p xs ≡ true → Contains xs x → p x ≡ true
all_at p xs x h (k, lt, e) = elim (cases_Bool (p x)) [
  | inl passing ↦ passing
  | inr failing ↦ let none = list_all_at p xs k x lt (subst (λ y. p y ≡ false) (sym e) failing) in absurd (cc (h, none))
]

any_at : {X : Type 0} (p : X → Bool) (xs : List X) → list_any p xs ≡ true → (x : X) × Contains xs x × (p x ≡ true)
any_at p [] h = absurd (cc h)
any_at p (x ∷ xs) h = elim (cases_Bool (p x)) [
  | inl passing ↦ (x, Contains-append_left (x ∷ []) xs x (Contains-push [] x), passing)
  | inr failing ↦ let r = any_at p xs (rw failing at h) in (r.0, Contains-append_right (x ∷ []) xs r.0 r.1, r.2)
]

name_is : (a b : Option (List ℕ)) (n : List ℕ) → names_same a b ≡ true → a ≡ Some n → b ≡ Some n
name_is (Some x) (Some y) n h e =
    let same : x ≡ y = (bytes_eq-Decides x y).0 h in
    cc (same, e)
name_is (Some x) None n h e = absurd (cc h)
name_is None b n h e = absurd (cc e)

any_is : (k : Kind) → is_any k ≡ true → k ≡ Any
any_is Any h = refl
any_is _ h = absurd (cc h)

pub kind_is : (a b : Kind) → same_kind a b ≡ true → a ≡ b
kind_is Any Any h = refl
kind_is _ Any h = cc h
kind_is _ _ h = cc h

any_or_same : (a b : Argument) → stands_for b a ≡ true → (a.kind ≡ Any) ⊎ (a.kind ≡ b.kind)
any_or_same a b h = elim (cases_Bool (is_any a.kind)) [
  | inl passing ↦ inl (any_is a.kind passing)
  | inr failing ↦ inr (kind_is a.kind b.kind (rw failing at (and_parts (same_name a b) _ h).1))
]

stand_in : (ones others : List Argument) (a : Argument) (n : List ℕ) → are_covered ones others ≡ true → Contains ones a
    → a.name ≡ Some n
    → (b : Argument) × Contains others b × (b.name ≡ Some n) × ((a.kind ≡ Any) ⊎ (a.kind ≡ b.kind))
stand_in ones others a n h c e =
    let r = any_at (λ (b : Argument). stands_for b a) others
    (all_at (λ (one : Argument). list_any (λ (b : Argument). stands_for b one) others) ones a h c) in
    (r.0, r.1, name_is a.name r.0.name n (and_parts (same_name a r.0) _ r.2).0 e, any_or_same a r.0 r.2)

-- where each translation's argument has a stand-in, it is of the original's kind, or Any
fits_kind : (original translation : List Argument) (n : List ℕ) (kind : Kind) → are_covered translation original ≡ true
    → HasKind original n kind → (b : Argument) → Contains translation b → b.name ≡ Some n
    → (b.kind ≡ kind) ⊎ (b.kind ≡ Any)
fits_kind original translation n kind h k b c e = go (stand_in translation original b n h c e)
  where
    go : (a : Argument) × Contains original a × (a.name ≡ Some n) × ((b.kind ≡ Any) ⊎ (b.kind ≡ a.kind))
        → (b.kind ≡ kind) ⊎ (b.kind ≡ Any)
    go (a, asked, named, inl any) = inr any
    go (a, asked, named, inr same) = elim (k.others a asked named) [
      | inl is ↦ inl (same ∙ is)
      | inr any ↦ inr (same ∙ any)
    ]

pub kind_kept : (original translation : List Argument) (n : List ℕ) (kind : Kind)
    → are_covered original translation ≡ true → are_covered translation original ≡ true → HasKind original n kind
    → HasKind translation n kind
kind_kept original translation n kind there back k =
    go (stand_in original translation k.argument n there k.asked_for k.named)
  where
    go : (b : Argument) × Contains translation b × (b.name ≡ Some n)
        × ((k.argument.kind ≡ Any) ⊎ (k.argument.kind ≡ b.kind)) → HasKind translation n kind
    go (b, asked, named, inl any) = record {
      argument = b;
      asked_for = asked;
      named = named;
      kind_is = elim (fits_kind original translation n kind back k b asked named) [
        | inl is ↦ is
        | inr also ↦ also ∙ sym any ∙ k.kind_is
      ];
      others = fits_kind original translation n kind back k;
    }
    go (b, asked, named, inr same) = record {
      argument = b;
      asked_for = asked;
      named = named;
      kind_is = sym same ∙ k.kind_is;
      others = fits_kind original translation n kind back k;
    }

pub strict_kinds : (original translation : List Argument) → named_agree original translation Same ≡ true
    → (n : List ℕ) (kind : Kind) → (HasKind original n kind → HasKind translation n kind)
    × (HasKind translation n kind → HasKind original n kind)
strict_kinds original translation h n kind =
    let p = and_parts (are_covered original translation) (are_covered translation original) h in
    (kind_kept original translation n kind p.0 p.1, kind_kept translation original n kind p.1 p.0)

-- ---- leniently

same_name_is : (a b : Option (List ℕ)) (n : List ℕ) → a ≡ Some n → b ≡ Some n → names_same a b ≡ true
same_name_is a b n e f = rw (e, f) ((bytes_eq-Decides n n).1 refl)

fit_is : (a b : Kind) → kinds_fit a b ≡ true → (a ≡ Any) ⊎ ((b ≡ Any) ⊎ (a ≡ b))
fit_is a b h = elim (cases_Bool (is_any a)) [
  | inl passing ↦ inl (any_is a passing)
  | inr failing ↦ elim (cases_Bool (is_any b)) [
    | inl passing ↦ inr (inl (any_is b passing))
    | inr neither ↦ inr (inr (kind_is a b (rw (failing, neither) at h)))
  ]
]

pub lenient_kinds : (original translation : List Argument) → named_agree original translation Lenient ≡ true
    → (n : List ℕ) (kind other : Kind) → HasKind translation n kind → HasKind original n other
    → (kind ≡ Any) ⊎ ((other ≡ Any) ⊎ (kind ≡ other))
lenient_kinds original translation h n kind other k j =
    let p = and_parts (named_in translation original) (all_compatible translation original) h in
    let here : are_compatible k.argument j.argument ≡ true =
    all_at (λ (b : Argument). are_compatible k.argument b) original
    j.argument (all_at (λ (a : Argument). list_all (λ (b : Argument). are_compatible a b) original) translation
    k.argument
    p.1 k.asked_for) j.asked_for in
    let same : same_name k.argument j.argument ≡ true =
    same_name_is k.argument.name j.argument.name n k.named j.named in
    let fit : kinds_fit k.argument.kind j.argument.kind ≡ true = rw same at here in
    let moved : kinds_fit kind j.argument.kind ≡ true =
    subst (λ (x : Kind). kinds_fit x j.argument.kind ≡ true) k.kind_is fit in
    fit_is kind other (subst (λ (x : Kind). kinds_fit kind x ≡ true) j.kind_is moved)

pub lenient_names : (original translation : List Argument) → named_agree original translation Lenient ≡ true
    → (n : List ℕ) (kind : Kind) → HasKind translation n kind → (a : Argument) × Contains original a × (a.name ≡ Some n)
lenient_names original translation h n kind k =
    let p = and_parts (named_in translation original) (all_compatible translation original) h in
    let r = any_at (λ (b : Argument). same_name k.argument b) original
    (all_at (λ (a : Argument). list_any (λ (b : Argument). same_name a b) original) translation k.argument p.0
    k.asked_for)
    in (r.0, r.1, name_is k.argument.name r.0.name n r.2 k.named)
