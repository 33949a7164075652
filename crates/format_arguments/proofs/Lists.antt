-- Tests of all and of some elements of lists that are mapped.
use Rattle.std.proofs.Common.{◌≡◌, Bool, List, [], ◌∷◌, map, length, refl, ap}
use Rattle.std.specs.Prelude.{◌&&◌, ◌||◌, ◌==◌, zip}
use Rattle.std.specs.List.{list_all, list_any}
use Rattle.std.proofs.lemmas.List.{length-map}
use Rattle.std.proofs.lemmas.Bool.{eq-eqb}

pub list_any_map : {X Y : Type 0} (p : X → Bool) (h : Y → X) (ys : List Y) → list_any p (map h ys)
    ≡ list_any (λ y. p (h y)) ys
list_any_map p h [] = refl
list_any_map p h (y ∷ ys) = ap (λ (b : Bool). p (h y) || b) (list_any_map p h ys)

pub list_all_zip : {X Y : Type 0} (p : (X × X) → Bool) (h : Y → X) (xs ys : List Y)
    → list_all p (zip (map h xs) (map h ys)) ≡ list_all (λ (pair : Y × Y). p (h pair.0, h pair.1)) (zip xs ys)
list_all_zip p h (x ∷ xs) (y ∷ ys) = ap (λ (b : Bool). p (h x, h y) && b) (list_all_zip p h xs ys)
list_all_zip p h _ _ = refl

pub zip_agrees : {X Y : Type 0} (p : (X × X) → Bool) (h : Y → X) (xs ys : List Y) (r : Bool) → length xs ≡ length ys → r
    ≡ list_all (λ (pair : Y × Y). p (h pair.0, h pair.1)) (zip xs ys) → r
    ≡ ((length (map h xs) == length (map h ys)) && list_all p (zip (map h xs) (map h ys)))
zip_agrees p h xs ys r e f =
    let same = eq-eqb (length xs) (length ys) e in
    rw (length-map xs h, length-map ys h, same, list_all_zip p h xs ys) f
