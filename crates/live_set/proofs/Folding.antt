-- What a set is after a list of loads: the last load of each domain and locale, and their number.
use Rattle.std.proofs.Common.{◌≡◌, ℕ, ◌+◌, ◌≤◌, min, Bool, true, false, cond, List, [], ◌∷◌, length, Option, Some, fold}
use Rattle.std.proofs.Common.{filter, find, refl, ap, ◌∙◌, arith}
use Rattle.std.specs.List.{last_or}
use Rattle.live_set.specs.Loads.{LoadValue, is_for, map_or_empty, map_of}
use Rattle.live_set.specs.Sets.{SetValue, no_loads, with_load, map_in, fold as set_of}
use Rattle.live_set.proofs.Finding.{find-slotted}

-- one more load is the last one if it is for the pair
last_of : (b : Bool) (o : Option LoadValue) (x : LoadValue) (xs : List LoadValue) → last_or (cond b (Some x) o) xs
    ≡ last_or o (cond b (x ∷ xs) xs)
last_of true o x xs = refl
last_of false o x xs = refl

found : (domain locale : List ℕ) (loads : List LoadValue) (s : SetValue)
    → find (is_for domain locale) (fold with_load s loads).held
    ≡ last_or (find (is_for domain locale) s.held) (filter (is_for domain locale) loads)
found domain locale [] s = refl
found domain locale (x ∷ loads) s =
    let p = is_for domain locale in
    found domain locale loads (with_load s x)
    ∙ ap (λ o. last_or o (filter p loads)) (find-slotted domain locale s.held x)
    ∙ last_of (p x) (find p s.held) x (filter p loads)

-- for each pair, the set of some loads has the map of the last load for it
pub map_in-fold : (loads : List LoadValue) (domain locale : List ℕ) → map_in (set_of loads).held domain locale
    ≡ map_of loads domain locale
map_in-fold loads domain locale = ap map_or_empty (found domain locale loads no_loads)

counted : (loads : List LoadValue) (s : SetValue) → s.version + length loads ≤ 18446744073709551615
    → (fold with_load s loads).version ≡ s.version + length loads
counted [] s le = omega arith
counted (x ∷ loads) s le =
    let one : min (s.version + 1) 18446744073709551615 ≡ s.version + 1 = omega (arith, le) in
    let all : min (s.version + 1) 18446744073709551615 + length loads ≤ 18446744073709551615 = omega (arith, le, one) in
    counted loads (with_load s x) all ∙ omega (arith, one)

-- the set's version is the number of loads
pub version-fold : (loads : List LoadValue) → length loads ≤ 18446744073709551615 → (set_of loads).version
    ≡ length loads
version-fold loads le = counted loads no_loads (omega (arith, le)) ∙ omega arith
