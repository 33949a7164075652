-- Lists that match place by place.
use Rattle.catserve.proofs.Common.{List, [], ◌∷◌, ◌++◌, AllZip}

pub AllZip-snoc : {A B : Type 0} (R : A → B → Type 0) (xs : List A) (ys : List B) (x : A) (y : B) → AllZip R xs ys
    → R x y → AllZip R (xs ++ x ∷ []) (ys ++ y ∷ [])
AllZip-snoc R [] [] x y h r = (r, tt)
AllZip-snoc R (u ∷ xs) (v ∷ ys) x y h r = (h.0, AllZip-snoc R xs ys x y h.1 r)
AllZip-snoc R _ _ x y h r = absurd h
