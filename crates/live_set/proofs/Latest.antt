-- The latest load of each domain and locale is enough.
use Rattle.live_set.proofs.Kit.{◌≡◌, ℕ, ◌||◌, Bool, true, false, cond, List, [], ◌∷◌, Option, None, Some, filter, refl}
use Rattle.live_set.proofs.Kit.{sym, ap, ◌∙◌, LoadValue, is_for, map_or_empty}
use Rattle.std.specs.List.{last_or, list_any}
use Rattle.std.specs.Cmp.{first_so, second_so}
use Rattle.std.specs.Str.{bytes_eq}
use Rattle.std.proofs.lemmas.Slice.Eq.{bytes_eq-Decides}
use Rattle.live_set.specs.Laws.{LatestSuffice, latest_loads}

-- if an element is kept, the last one that is kept doesn't depend on the default
any_kept : (p : LoadValue → Bool) (o other : Option LoadValue) (xs : List LoadValue) → list_any p xs ≡ true
    → last_or o (filter p xs) ≡ last_or other (filter p xs)
any_kept p o other [] none = absurd (cc none)
any_kept p o other (x ∷ xs) any =
    let rest = any_kept p o other xs in
    elim (p x) as (λ b. (b || list_any p xs) ≡ true
    → last_or o (cond b (x ∷ filter p xs) (filter p xs)) ≡ last_or other (cond b (x ∷ filter p xs) (filter p xs))) [
      | true ↦ λ _. refl
      | false ↦ λ later. rest later
    ] any

-- a load for the pair has a later one for its own pair where one for this pair follows
same_pair : (domain locale : List ℕ) (x : LoadValue) (xs : List LoadValue) → is_for domain locale x ≡ true
    → list_any (is_for x.domain x.locale) xs ≡ list_any (is_for domain locale) xs
same_pair domain locale x xs fits =
    let d : x.domain ≡ domain = (bytes_eq-Decides x.domain domain).0
    (first_so (bytes_eq x.domain domain) (bytes_eq x.locale locale) fits) in
    let e : x.locale ≡ locale = (bytes_eq-Decides x.locale locale).0
    (second_so (bytes_eq x.domain domain) (bytes_eq x.locale locale) fits) in
    λ i. list_any (is_for (d i) (e i)) xs

module _ (domain locale : List ℕ) where
  abbrev p : LoadValue → Bool
  p = is_for domain locale

  latest_last : (loads : List LoadValue) (o : Option LoadValue)
      → last_or o (filter p (latest_loads loads)) ≡ last_or o (filter p loads)
  latest_last [] o = refl
  latest_last (x ∷ xs) o =
      let rest = latest_last xs in
      elim (list_any (is_for x.domain x.locale) xs) as (λ later. list_any (is_for x.domain x.locale) xs ≡ later
      → last_or o (filter p (cond later (latest_loads xs) (x ∷ latest_loads xs)))
      ≡ last_or o (cond (p x) (x ∷ filter p xs) (filter p xs))) [
        | true ↦ λ replaced. rest o ∙ elim (p x) as (λ b. p x ≡ b
            → last_or o (filter p xs) ≡ last_or o (cond b (x ∷ filter p xs) (filter p xs))) [
              | true ↦ λ fits. any_kept p o (Some x) xs (sym (same_pair domain locale x xs fits) ∙ replaced)
              | false ↦ λ _. refl
            ] refl
        | false ↦ λ _. elim (p x) as (λ b. last_or o
            (cond b (x ∷ filter p (latest_loads xs)) (filter p (latest_loads xs)))
            ≡ last_or o (cond b (x ∷ filter p xs) (filter p xs))) [
              | true ↦ rest (Some x)
              | false ↦ rest o
            ]
      ] refl

pub latest_suffice : LatestSuffice
latest_suffice loads domain locale = ap map_or_empty (latest_last domain locale loads None)
