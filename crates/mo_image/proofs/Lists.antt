-- Lemmas that std lacks, about numbers and about a list at an index.
use Rattle.mo_image.proofs.Kit.{◌≡◌, true, false, eqb, ℕ, zero, suc, ◌<◌, List, [], ◌∷◌, length, map, get_or, Some}
use Rattle.mo_image.proofs.Kit.{slice_get, refl, sym, ap, ◌∙◌, subst, arith, AllByRecursion, eqb-true, length-map}
use Rattle.std.proofs.Common.{◌≢◌}
use Rattle.std.proofs.lemmas.List.{get_or-map}
use Rattle.std.proofs.lemmas.Option.{slice_get_read}

pub differs : (a b : ℕ) → a ≢ b → eqb a b ≡ false
differs a b ne = elim (eqb a b) as (λ r. eqb a b ≡ r → r ≡ false)
    [ true ↦ λ e. absurd (ne (eqb-true a b e)) | false ↦ λ e. refl ] refl

pub slice_get-map : {X Y : Type 0} (f : X → Y) (xs : List X) (i : ℕ) (x : X) → slice_get xs i ≡ Some x
    → slice_get (map f xs) i ≡ Some (f x)
slice_get-map f [] i x e = absurd cc
slice_get-map f (y ∷ ys) zero x e = let same : y ≡ x = cc in ap (λ z. Some (f z)) same
slice_get-map f (y ∷ ys) (suc i) x e = slice_get-map f ys i x e

-- the image of the element at i
pub image_at : {X Y : Type 0} (f : X → Y) (xs : List X) (i : ℕ) (x : X) → i < length (map f xs) → x ≡ get_or xs i x
    → slice_get (map f xs) i ≡ Some (f x)
image_at f xs i x lt read =
    let short : i < length xs = omega (arith, length-map xs f) in
    slice_get_read (map f xs) (length (map f xs)) i (f x) refl lt (ap f read ∙ sym (get_or-map f xs i x (f x) short))

-- what holds for each element holds for the one at i
pub at_index : {X : Type 0} (P : X → Type 0) (xs : List X) (i : ℕ) (x : X) → AllByRecursion P xs → slice_get xs i
    ≡ Some x → P x
at_index P [] i x each e = absurd cc
at_index P (y ∷ ys) zero x each e = let same : y ≡ x = cc in subst P same each.0
at_index P (y ∷ ys) (suc i) x each e = at_index P ys i x each.1 e
