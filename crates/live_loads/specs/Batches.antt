-- Batches of loads: the loads of a batch are published in one step.
use Rattle.std.specs.Prelude.{◌≡◌, ◌≢◌, ⊤, ℕ, List, [], ◌∷◌, ◌++◌, length}
use Rattle.live_set.specs.Loads.{LoadValue}

-- the published loads: all batches joined
abbrev pub joined_loads : List (List LoadValue) → List LoadValue
joined_loads [] = []
joined_loads (batch ∷ batches) = batch ++ joined_loads batches

-- a version is the number of published loads
abbrev pub version_of : List (List LoadValue) → ℕ
version_of batches = length (joined_loads batches)

-- the longer list begins with the shorter one
abbrev pub StartsWith : List (List LoadValue) → List (List LoadValue) → Type 0
StartsWith longer shorter = (rest : List (List LoadValue)) × (longer ≡ shorter ++ rest)

-- no batch is empty
abbrev pub NoneEmpty : List (List LoadValue) → Type 0
NoneEmpty [] = ⊤
NoneEmpty (batch ∷ batches) = (batch ≢ []) × NoneEmpty batches

-- the pending loads become one new last batch, if there are any
abbrev pub after_publish : List (List LoadValue) → List LoadValue → List (List LoadValue)
after_publish batches [] = batches
after_publish batches (load ∷ loads) = batches ++ (load ∷ loads) ∷ []
