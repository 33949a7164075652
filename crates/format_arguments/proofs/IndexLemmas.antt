-- The kinds by a name, as an index keeps them, decide what the definitions ask of all arguments of that name.
use Rattle.std.proofs.Common.{◌≡◌, ℕ, Bool, true, false, List, [], ◌∷◌, Option, None, Some, refl, sym, ap, ◌∙◌, inl}
use Rattle.std.proofs.Common.{inr}
use Rattle.std.specs.Prelude.{◌&&◌, ◌||◌, is_some}
use Rattle.std.specs.List.{fold, list_all, list_any}
use Rattle.std.specs.Option.{unwrap_or}
use Rattle.std.proofs.lemmas.Bool.{cases_Bool}
use Rattle.format_arguments.specs.declared.Kind.{Kind}
use Rattle.format_arguments.specs.declared.Kind.TheVariants.{Any}
use Rattle.format_arguments.specs.declared.kinds.Kinds.{Kinds}
use Rattle.format_arguments.specs.declared.index.Index.{Index}
use Rattle.format_arguments.specs.Arguments.{Argument, kinds_fit, same_kind, is_any, names_same, same_name}
use Rattle.format_arguments.specs.Arguments.{are_compatible, all_compatible, stands_for, are_covered, named_in}
use Rattle.format_arguments.specs.Indexing.{no_kinds, more, stand_for, fit, add, IsIndexOf, fit_if}
use Rattle.format_arguments.specs.Indexing.{stand_if, compatible_in, has_stand_in, has_name}

-- ---- Bool

and_true : (a : Bool) → (a && true) ≡ a
and_true true = refl
and_true false = refl

and_false : (a : Bool) → (a && false) ≡ false
and_false true = refl
and_false false = refl

or_true : (a : Bool) → (a || true) ≡ true
or_true true = refl
or_true false = refl

or_false : (a : Bool) → (a || false) ≡ a
or_false true = refl
or_false false = refl

and_assoc : (a b c : Bool) → ((a && b) && c) ≡ (a && (b && c))
and_assoc true b c = refl
and_assoc false b c = refl

or_assoc : (a b c : Bool) → ((a || b) || c) ≡ (a || (b || c))
or_assoc true b c = refl
or_assoc false b c = refl

-- ---- one more kind

has_more : (kinds : Kinds) (k j : Kind) → stand_for (more kinds j) k
    ≡ (stand_for kinds k || (is_any k || same_kind k j))
has_more kinds Any j = refl
has_more kinds _ Any = simp (or_true, or_false)
has_more kinds _ _ = simp (or_true, or_false)

fit_more : (kinds : Kinds) (k j : Kind) → fit (more kinds j) k ≡ (fit kinds k && kinds_fit k j)
fit_more kinds Any j = refl
fit_more kinds _ Any = simp (and_true, and_false)
fit_more kinds _ _ = simp (and_true, and_false)

has_none : (k : Kind) → stand_for no_kinds k ≡ (false || (is_any k || false))
has_none Any = refl
has_none _ = refl

fit_none : (k : Kind) → fit no_kinds k ≡ true
fit_none Any = refl
fit_none _ = refl

-- ---- one more argument

fit_add : (name : List ℕ) (k : Kind) (kinds : Option Kinds) (a : Argument)
    → fit_if k (add name kinds a) ≡ (fit_if k kinds && are_compatible (record { name = Some name; kind = k }) a)
fit_add name k kinds a = elim (cases_Bool (names_same (Some name) a.name)) [
  | inl e ↦ rw e (one kinds)
  | inr e ↦ rw e (sym (and_true (fit_if k kinds)))
]
  where
    one : (kinds : Option Kinds) → fit (more (unwrap_or kinds no_kinds) a.kind) k
        ≡ (fit_if k kinds && kinds_fit k a.kind)
    one None = fit_more no_kinds k a.kind ∙ ap (λ (b : Bool). b && kinds_fit k a.kind) (fit_none k)
    one (Some kinds) = fit_more kinds k a.kind

stand_add : (name : List ℕ) (k : Kind) (kinds : Option Kinds) (a : Argument)
    → stand_if k (add name kinds a) ≡ (stand_if k kinds || stands_for a (record { name = Some name; kind = k }))
stand_add name k kinds a = elim (cases_Bool (names_same (Some name) a.name)) [
  | inl e ↦ rw e (one kinds)
  | inr e ↦ rw e (sym (or_false (stand_if k kinds)))
]
  where
    none : (k : Kind) → (stand_for no_kinds k || (is_any k || same_kind k a.kind)) ≡ (is_any k || same_kind k a.kind)
    none Any = refl
    none _ = refl

    one : (kinds : Option Kinds) → stand_for (more (unwrap_or kinds no_kinds) a.kind) k
        ≡ (stand_if k kinds || (is_any k || same_kind k a.kind))
    one None = has_more no_kinds k a.kind ∙ none k
    one (Some kinds) = has_more kinds k a.kind

name_add : (name : List ℕ) (k : Kind) (kinds : Option Kinds) (a : Argument)
    → is_some (add name kinds a) ≡ (is_some kinds || same_name (record { name = Some name; kind = k }) a)
name_add name k kinds a = elim (cases_Bool (names_same (Some name) a.name)) [
  | inl e ↦ rw e (sym (or_true (is_some kinds)))
  | inr e ↦ rw e (sym (or_false (is_some kinds)))
]

-- ---- all arguments

all_along : {X B : Type 0} (f : B → X → B) (g : B → Bool) (p : X → Bool) → ((b : B) (x : X) → g (f b x) ≡ (g b && p x))
    → (b : B) (xs : List X) → g (fold f b xs) ≡ (g b && list_all p xs)
all_along f g p step b [] = sym (and_true (g b))
all_along f g p step b (x ∷ xs) = all_along f g p step (f b x) xs ∙ ap (λ (c : Bool). c && list_all p xs) (step b x)
    ∙ and_assoc (g b) (p x) (list_all p xs)

any_along : {X B : Type 0} (f : B → X → B) (g : B → Bool) (p : X → Bool) → ((b : B) (x : X) → g (f b x) ≡ (g b || p x))
    → (b : B) (xs : List X) → g (fold f b xs) ≡ (g b || list_any p xs)
any_along f g p step b [] = sym (or_false (g b))
any_along f g p step b (x ∷ xs) = any_along f g p step (f b x) xs ∙ ap (λ (c : Bool). c || list_any p xs) (step b x)
    ∙ or_assoc (g b) (p x) (list_any p xs)

none_all : (k : Kind) (asked : List Argument) → list_all (are_compatible (record { name = None; kind = k })) asked
    ≡ true
none_all k [] = refl
none_all k (a ∷ asked) = none_all k asked

none_any : (k : Kind) (asked : List Argument)
    → list_any (λ (a : Argument). stands_for a (record { name = None; kind = k })) asked ≡ false
none_any k [] = refl
none_any k (a ∷ asked) = none_any k asked

none_named : (k : Kind) (asked : List Argument) → list_any (same_name (record { name = None; kind = k })) asked ≡ false
none_named k [] = refl
none_named k (a ∷ asked) = none_named k asked

compatible_is : (index : Index) (asked : List Argument) → IsIndexOf index asked → (name : Option (List ℕ)) (k : Kind)
    → compatible_in (record { name = name; kind = k }) index
    ≡ list_all (are_compatible (record { name = name; kind = k })) asked
compatible_is index asked is None k = sym (none_all k asked)
compatible_is index asked is (Some name) k = ap (fit_if k) (is name)
    ∙ all_along (add name) (fit_if k) (are_compatible (record { name = Some name; kind = k })) (fit_add name k) None
    asked

stand_in_is : (index : Index) (asked : List Argument) → IsIndexOf index asked → (name : Option (List ℕ)) (k : Kind)
    → has_stand_in (record { name = name; kind = k }) index
    ≡ list_any (λ (a : Argument). stands_for a (record { name = name; kind = k })) asked
stand_in_is index asked is None k = sym (none_any k asked)
stand_in_is index asked is (Some name) k = ap (stand_if k) (is name)
    ∙ any_along (add name) (stand_if k) (λ (a : Argument). stands_for a (record { name = Some name; kind = k }))
    (stand_add name k) None asked

name_is : (index : Index) (asked : List Argument) → IsIndexOf index asked → (name : Option (List ℕ)) (k : Kind)
    → has_name (record { name = name; kind = k }) index ≡ list_any (same_name (record { name = name; kind = k })) asked
name_is index asked is None k = sym (none_named k asked)
name_is index asked is (Some name) k = ap (λ (kinds : Option Kinds). is_some kinds) (is name)
    ∙ any_along (add name) (λ (kinds : Option Kinds). is_some kinds) (same_name (record { name = Some name; kind = k }))
    (name_add name k) None asked

all_same : {X : Type 0} (p q : X → Bool) → ((x : X) → p x ≡ q x) → (xs : List X) → list_all p xs ≡ list_all q xs
all_same p q same [] = refl
all_same p q same (x ∷ xs) = rw (same x, all_same p q same xs) refl

pub all_compatible_is : (index : Index) (ones asked : List Argument) → IsIndexOf index asked
    → list_all (λ (one : Argument). compatible_in one index) ones ≡ all_compatible ones asked
all_compatible_is index ones asked is = all_same (λ (one : Argument). compatible_in one index)
    (λ (one : Argument). list_all (λ (other : Argument). are_compatible one other) asked)
    (λ one. compatible_is index asked is one.name one.kind) ones

pub covered_is : (index : Index) (ones asked : List Argument) → IsIndexOf index asked
    → list_all (λ (one : Argument). has_stand_in one index) ones ≡ are_covered ones asked
covered_is index ones asked is = all_same (λ (one : Argument). has_stand_in one index)
    (λ (one : Argument). list_any (λ (other : Argument). stands_for other one) asked)
    (λ one. stand_in_is index asked is one.name one.kind) ones

pub named_in_is : (index : Index) (ones asked : List Argument) → IsIndexOf index asked
    → list_all (λ (one : Argument). has_name one index) ones ≡ named_in ones asked
named_in_is index ones asked is = all_same (λ (one : Argument). has_name one index)
    (λ (one : Argument). list_any (λ (other : Argument). same_name one other) asked)
    (λ one. name_is index asked is one.name one.kind) ones
