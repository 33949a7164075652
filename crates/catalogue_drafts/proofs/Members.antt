-- Lemmas that std lacks about the members of a list.
use Rattle.catalogue_drafts.proofs.Kit.{◌≡◌, zero, suc, Bool, true, false, cond, List, [], ◌∷◌, map, Option, Some, None}
use Rattle.catalogue_drafts.proofs.Kit.{refl}
use Rattle.catalogue_drafts.proofs.Kit.{sym, ap, ◌∙◌, arith, inl, inr, ◌⊎◌, Contains, filter, filter_map, find}

pub has_head : {X : Type 0} (x y : X) (xs : List X) → y ≡ x → Contains (y ∷ xs) x
has_head x y xs e = (zero, omega arith, e)

pub has_tail : {X : Type 0} (x y : X) (xs : List X) → Contains xs x → Contains (y ∷ xs) x
has_tail x y xs h = (suc h.0, omega (arith, h.1), h.2)

pub has_cases : {X : Type 0} (x y : X) (xs : List X) → Contains (y ∷ xs) x → (y ≡ x) ⊎ Contains xs x
has_cases x y xs (zero, lt, e) = inl e
has_cases x y xs (suc k, lt, e) = inr (k, omega (arith, lt), e)

pub has_map : {X Y : Type 0} (f : X → Y) (xs : List X) (x : X) → Contains xs x → Contains (map f xs) (f x)
has_map f [] x h = absurd (omega (arith, h.1))
has_map f (y ∷ xs) x h = elim (has_cases x y xs h) [
  | inl e ↦ has_head (f x) (f y) (map f xs) (ap f e)
  | inr t ↦ has_tail (f x) (f y) (map f xs) (has_map f xs x t)
]

-- a member that passes stays
pub has_filter : {X : Type 0} (p : X → Bool) (xs : List X) (x : X) → Contains xs x → p x ≡ true
    → Contains (filter p xs) x
has_filter p [] x h pass = absurd (omega (arith, h.1))
has_filter p (y ∷ xs) x h pass = elim (has_cases x y xs h) [
  | inl e ↦ rw (ap p e ∙ pass) (has_head x y (filter p xs) e)
  | inr t ↦ step (p y) (has_filter p xs x t pass)
]
  where
    step : (b : Bool) → Contains (filter p xs) x → Contains (cond b (y ∷ filter p xs) (filter p xs)) x
    step true h = has_tail x y (filter p xs) h
    step false h = h

-- the image of a member is a member of the image
pub has_filter_map : {X Y : Type 0} (f : X → Option Y) (xs : List X) (x : X) (y : Y) → Contains xs x → f x ≡ Some y
    → Contains (filter_map f xs) y
has_filter_map f [] x y h e = absurd (omega (arith, h.1))
has_filter_map f (z ∷ xs) x y h e = elim (has_cases x z xs h) [
  | inl same ↦ rw (ap f same ∙ e) (has_head y y (filter_map f xs) refl)
  | inr t ↦ step (f z) (has_filter_map f xs x y t e)
]
  where
    step : (o : Option _) → Contains (filter_map f xs) y → Contains
        (Rattle.std.specs.List.cons_option o (filter_map f xs)) y
    step None h = h
    step (Some w) h = has_tail y w (filter_map f xs) h

pub from_map : {X Y : Type 0} (f : X → Y) (xs : List X) (y : Y) → Contains (map f xs) y → (x : X) × Contains xs x
    × (f x ≡ y)
from_map f [] y h = absurd (omega (arith, h.1))
from_map f (x ∷ xs) y h = elim (has_cases y (f x) (map f xs) h) [
  | inl e ↦ (x, has_head x x xs refl, e)
  | inr t ↦ let m = from_map f xs y t in (m.0, has_tail m.0 x xs m.1, m.2)
]

-- what stays was a member before
pub from_filter : {X : Type 0} (p : X → Bool) (xs : List X) (x : X) → Contains (filter p xs) x → Contains xs x
from_filter p [] x h = h
from_filter p (y ∷ xs) x h = step (p y) h (λ t. from_filter p xs x t)
  where
    step : (b : Bool) → Contains (cond b (y ∷ filter p xs) (filter p xs)) x → (Contains (filter p xs) x → Contains xs x)
        → Contains (y ∷ xs) x
    step true h rest = elim (has_cases x y (filter p xs) h) [
      | inl e ↦ has_head x y xs e
      | inr t ↦ has_tail x y xs
          (rest t)
    ]
    step false h rest = has_tail x y xs (rest h)

-- what a search finds is a member, and passes
pub from_find : {X : Type 0} (p : X → Bool) (xs : List X) (x : X) → find p xs ≡ Some x → Contains xs x × (p x ≡ true)
from_find p [] x e = absurd cc
from_find p (y ∷ xs) x e = step (p y) refl e (λ t. from_find p xs x t)
  where
    step : (b : Bool) → p y ≡ b → cond b (Some y) (find p xs) ≡ Some x
        → (find p xs ≡ Some x → Contains xs x × (p x ≡ true)) → Contains (y ∷ xs) x × (p x ≡ true)
    step true is e rest = let same : y ≡ x = cc in (has_head x y xs same, sym (ap p same) ∙ is)
    step false is e rest = let t = rest e in (has_tail x y xs t.0, t.1)
