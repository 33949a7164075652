-- A name among the names of a charset.
use Rattle.std.proofs.Common.{◌≡◌, ℕ, ◌<◌, List, [], map, length, get_or, sym, ap, ◌∙◌}
use denote.Ref.{Bor}
use Rattle.std.proofs.lemmas.List.{get_or-map}

-- the item of a list of borrowed names
pub item_is : (refs : List (Bor (List ℕ))) (names : List (List ℕ)) (i : ℕ) (d : Bor (List ℕ))
    → map (λ r. r.now) refs ≡ names → i < length refs → get_or names i [] ≡ (get_or refs i d).now
item_is refs names i d e lt =
    ap (λ (xs : List (List ℕ)). get_or xs i []) (sym e) ∙ get_or-map (λ r. r.now) refs i d [] lt
