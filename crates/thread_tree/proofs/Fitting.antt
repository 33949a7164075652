-- Work that needs nothing of an item fits all items.
use Rattle.std.proofs.Common.{List, [], ◌∷◌}
use Rattle.std.specs.Prelude.{⊤}
use Rattle.std.specs.List.{AllByRecursion}

pub all_fit : {T : Type 0} (xs : List T) → AllByRecursion (λ x. ⊤) xs
all_fit [] = tt
all_fit (x ∷ xs) = (tt, all_fit xs)
