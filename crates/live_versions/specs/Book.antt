-- Private: what the book of a store keeps, and what a copy shows of it.
use Rattle.std.specs.Prelude.{◌≡◌, ⊤, ℕ, ◌^◌, ◌<◌, List, [], ◌∷◌, ◌++◌, true, Option, Some, None}
use Rattle.logbook.specs.Pages.{Cell, Book, Named, Step, View}
use Rattle.live_set.specs.Loads.{LoadValue}
use Rattle.live_loads.specs.Batches.{version_of, NoneEmpty}
use Rattle.live_loads.specs.Seen.{SeenValue}

-- the first word of a book is the version; a book has two words, and the second one stays 0
pub record KeepsBatches (cells : List Cell) (log : List (List LoadValue)) : Type 0 where
  pub words : cells ≡ (version_of log, true) ∷ (0, true) ∷ []
  pub full : NoneEmpty log
  pub fits : version_of log < 2 ^ 64

-- the version word of a book
abbrev pub head_of : Book → Named
head_of b = record { tracked = true; key = 0; book = b }

-- the batch is added to all that was seen, unless the book has moved on
abbrev pub AddsBatch : List LoadValue → Step (List LoadValue) → View (List LoadValue) ℕ → ℕ → View (List LoadValue) ℕ
    → Type 0
AddsBatch batch s v found w = found ≡ s.old → w.0 ≡ v.0 ++ batch ∷ []

-- what was seen and one more batch, if there is one
abbrev pub with_claim : SeenValue → Option (List LoadValue) → SeenValue
with_claim s (Some batch) = record { book = s.book; batches = s.batches ++ batch ∷ [] }
with_claim s None = s

-- the token, if there is one, is exactly what is claimed
abbrev pub IsTokenOf : Option SeenValue → SeenValue → Type 0
IsTokenOf (Some s) claim = s ≡ claim
IsTokenOf None claim = ⊤
