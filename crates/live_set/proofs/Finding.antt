-- The load that a set finds for a domain and a locale after a load was put in its slot.
use Rattle.live_set.proofs.Kit.{◌≡◌, ℕ, Bool, true, false, cond, List, [], ◌∷◌, ◌++◌, Option, Some, None, Ordering}
use Rattle.live_set.proofs.Kit.{Less, Equal, Greater, filter, find, refl, sym, ap, subst, ◌∙◌, is_lt, LoadValue, is_for}
use Rattle.live_set.proofs.Kit.{map_or_empty, SetValue, order_of, is_before, with_slot, probe}
use Rattle.live_set.specs.Sets.{HasAbsorbed, with_load}
use Rattle.live_set.proofs.Order.{flipped, tied_for, not_for, beside, less_ne, greater_ne}

-- ---- a search of a filtered list

module _ {X : Type 0} (p q : X → Bool) where
  lacks : (z : X) (b c : Bool) → (p z ≡ true → q z ≡ b) → q z ≡ c → (b ≡ c → ⊥) → p z ≡ false
  lacks z b c h e ne =
      elim (p z) as (λ r. p z ≡ r → r ≡ false) [
        | true ↦ λ f. absurd (ne (sym (h f) ∙ e))
        | false ↦ λ f. refl
      ] refl

  false_true : false ≡ true → ⊥
  false_true e = cc

  true_false : true ≡ false → ⊥
  true_false e = cc

  -- the filter drops all that is searched for
  pub find_past : ((z : X) → p z ≡ true → q z ≡ false) → (xs ys : List X) → find p (filter q xs ++ ys) ≡ find p ys
  find_past out [] ys = refl
  find_past out (z ∷ zs) ys =
      let rest = find_past out zs ys in
      elim (q z) as (λ b. q z ≡ b → find p (cond b (z ∷ filter q zs) (filter q zs) ++ ys) ≡ find p ys) [
        | true ↦ λ e. ap (λ c. cond c (Some z) (find p (filter q zs ++ ys))) (lacks z false true (out z) e false_true)
            ∙ rest
        | false ↦ λ e. rest
      ] refl

  pub find_none : ((z : X) → p z ≡ true → q z ≡ false) → (xs : List X) → find p (filter q xs) ≡ None
  find_none out [] = refl
  find_none out (z ∷ zs) =
      let rest = find_none out zs in
      elim (q z) as (λ b. q z ≡ b → find p (cond b (z ∷ filter q zs) (filter q zs)) ≡ None) [
        | true ↦ λ e. ap (λ c. cond c (Some z) (find p (filter q zs))) (lacks z false true (out z) e false_true) ∙ rest
        | false ↦ λ e. rest
      ] refl

  -- the filter keeps all that is searched for
  pub find_kept : ((z : X) → p z ≡ true → q z ≡ true) → (xs : List X) → find p (filter q xs) ≡ find p xs
  find_kept kept [] = refl
  find_kept kept (z ∷ zs) =
      let rest = find_kept kept zs in
      elim (q z) as (λ b. q z ≡ b → find p (cond b (z ∷ filter q zs) (filter q zs)) ≡ cond (p z) (Some z) (find p zs)) [
        | true ↦ λ e. ap (cond (p z) (Some z)) rest
        | false ↦ λ e. rest ∙ sym (ap (λ c. cond c (Some z) (find p zs)) (lacks z true false (kept z) e true_false))
      ] refl

  -- nothing that is searched for follows
  pub find_front : (xs ys : List X) → find p ys ≡ None → find p (xs ++ ys) ≡ find p xs
  find_front [] ys none = none
  find_front (z ∷ zs) ys none = ap (cond (p z) (Some z)) (find_front zs ys none)

-- ---- a set after one load

module _ (domain locale : List ℕ) (held : List LoadValue) (x : LoadValue) where
  abbrev p : LoadValue → Bool
  p = is_for domain locale

  abbrev before : LoadValue → Bool
  before = λ l. is_before l x

  abbrev after : LoadValue → Bool
  after = λ l. is_before x l

  -- how the load compares with one for the pair
  is_beside : (o : Ordering) → order_of x (probe domain locale) ≡ o → (z : LoadValue) → p z ≡ true → order_of x z ≡ o
  is_beside o h z pz = beside domain locale x z pz ∙ h

  found_here : order_of x (probe domain locale) ≡ Equal → find p (with_slot held x) ≡ cond (p x) (Some x) (find p held)
  found_here h =
      let yes : p x ≡ true = tied_for domain locale x h in
      let past : find p (with_slot held x) ≡ find p (x ∷ filter after held) = find_past p before
      (λ z pz. ap is_lt (flipped x z Equal (is_beside Equal h z pz))) held (x ∷ filter after held) in
      past ∙ ap (λ c. cond c (Some x) (find p (filter after held))) yes
      ∙ sym (ap (λ c. cond c (Some x) (find p held)) yes)

  found_behind : order_of x (probe domain locale) ≡ Less → find p (with_slot held x) ≡ cond (p x) (Some x) (find p held)
  found_behind h =
      let no : p x ≡ false = not_for domain locale x Less h less_ne in
      let past : find p (with_slot held x) ≡ find p (x ∷ filter after held) = find_past p before
      (λ z pz. ap is_lt (flipped x z Less (is_beside Less h z pz))) held (x ∷ filter after held) in
      let kept : find p (filter after held) ≡ find p held = find_kept p after (λ z pz. ap is_lt (is_beside Less h z pz))
      held in
      past ∙ ap (λ c. cond c (Some x) (find p (filter after held))) no ∙ kept
      ∙ sym (ap (λ c. cond c (Some x) (find p held)) no)

  found_before : order_of x (probe domain locale) ≡ Greater → find p (with_slot held x)
      ≡ cond (p x) (Some x) (find p held)
  found_before h =
      let no : p x ≡ false = not_for domain locale x Greater h greater_ne in
      let none : find p (filter after held) ≡ None = find_none p after (λ z pz. ap is_lt (is_beside Greater h z pz))
      held in
      let behind : find p (x ∷ filter after held) ≡ None = ap (λ c. cond c (Some x) (find p (filter after held))) no
      ∙ none in
      let front : find p (with_slot held x) ≡ find p (filter before held) = find_front p before (filter before held)
      (x ∷ filter after held) behind in
      let kept : find p (filter before held) ≡ find p held = find_kept p before
      (λ z pz. ap is_lt (flipped x z Greater (is_beside Greater h z pz))) held in
      front ∙ kept ∙ sym (ap (λ c. cond c (Some x) (find p held)) no)

  pub find-slotted : find p (with_slot held x) ≡ cond (p x) (Some x) (find p held)
  find-slotted =
      elim (order_of x (probe domain locale)) as (λ o. order_of x (probe domain locale) ≡ o → find p (with_slot held x)
      ≡ cond (p x) (Some x) (find p held)) [
        | Less ↦ λ e. found_behind e
        | Equal ↦ λ e. found_here e
        | Greater ↦ λ e. found_before e
      ] refl

-- ---- what each domain and locale has after one load

map_by : (b : Bool) (o : Option LoadValue) (x : LoadValue) → map_or_empty (cond b (Some x) o)
    ≡ cond b x.map (map_or_empty o)
map_by true o x = refl
map_by false o x = refl

has_absorbed : (x : LoadValue) (s : SetValue) → HasAbsorbed x s (with_load s x)
has_absorbed x s = record {
  version = refl;
  maps = λ domain locale. ap map_or_empty (find-slotted domain locale s.held x)
      ∙ map_by (is_for domain locale x) (find (is_for domain locale) s.held) x;
}

pub absorbs : (x : LoadValue) (s t : SetValue) → t ≡ with_load s x → HasAbsorbed x s t
absorbs x s t is = subst (HasAbsorbed x s) (sym is) (has_absorbed x s)
