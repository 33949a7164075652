-- One message more in the hash table.
use Rattle.std.proofs.Common.{◌≡◌, ℕ, suc, ◌+◌, List, map, set, Some, slice_get, refl, sym, subst, arith}
use Rattle.std.specs.Prelude.{IfSome}
use Rattle.mo_image.specs.Entry.{Entry, key}
use Rattle.mo_image.proofs.Lists.{slice_get-map}
use Rattle.mo_dependent.specs.Hashing.{hash, IsFilledTo, IsFirstFree}

pub filled_more : (size : ℕ) (m : List Entry) (i : ℕ) (e : Entry) (slots seen : List ℕ) (h slot : ℕ)
    → slice_get m i ≡ Some e → seen ≡ slots → h ≡ hash (key e) → IsFilledTo size (map key m) i slots
    → IsFirstFree seen h slot → IsFilledTo size (map key m) (i + 1) (set slots slot (i + 1))
filled_more size m i e slots seen h slot found same is filled first =
    let here : IsFirstFree slots (hash (key e)) slot = subst (λ x. IsFirstFree slots x slot) is
    (subst (λ s. IsFirstFree s h slot) same first) in
    let at : IfSome (slice_get (map key m) i) (λ k. IsFirstFree slots (hash k) slot) =
    subst (λ o. IfSome o (λ k. IsFirstFree slots (hash k) slot)) (sym (slice_get-map key m i e found)) here in
    let next : suc i ≡ i + 1 = omega arith in
    subst (λ n. IsFilledTo size (map key m) n (set slots slot n)) next (slots, filled, (slot, at, refl))
