-- What holds of the items of both halves holds of all.
use Rattle.std.proofs.Common.{◌≡◌, List, [], ◌∷◌, ◌++◌, sym, subst}
use Rattle.std.specs.List.{AllZip}

halves : {T : Type 0} (R : T → T → Type 0) (xs ys cs ds : List T) → AllZip R xs cs → AllZip R ys ds
    → AllZip R (xs ++ ys) (cs ++ ds)
halves R [] ys [] ds h k = k
halves R [] ys (c ∷ cs) ds h k = absurd h
halves R (x ∷ xs) ys [] ds h k = absurd h
halves R (x ∷ xs) ys (c ∷ cs) ds h k = (h.0, halves R xs ys cs ds h.1 k)

pub halves_of : {T : Type 0} (R : T → T → Type 0) (all xs ys cs ds : List T) → all ≡ xs ++ ys → AllZip R xs cs
    → AllZip R ys ds → AllZip R all (cs ++ ds)
halves_of R all xs ys cs ds is h k =
    subst (λ (l : List _). AllZip R l (cs ++ ds)) (sym is) (halves R xs ys cs ds h k)
