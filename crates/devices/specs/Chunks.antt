-- Private: how an input grows chunk by chunk.
use Rattle.std.specs.Prelude.{◌≡◌, ◌⊎◌, ℕ, List, ◌++◌, length, Option}
use Rattle.std.specs.Io.KnownBytes.{Consumes, IsAtEnd}

-- bytes went from a reader to the end of a buffer
abbrev pub ReadsMore : Option (List ℕ) → Option (List ℕ) → List ℕ → List ℕ → Type 0
ReadsMore left left' before after = (more : List ℕ) × (after ≡ before ++ more) × Consumes left left' more

-- there are as many bytes as are wanted, or no more
abbrev pub IsWhole : Option (List ℕ) → ℕ → List ℕ → Type 0
IsWhole left limit bytes = (length bytes ≡ limit) ⊎ IsAtEnd left
