-- The answers of a worker, given the batches that its reader has seen.
use Rattle.std.specs.Prelude.{◌≡◌, ◌≤◌, ⊤, ℕ, List, [], ◌∷◌, take}
use Rattle.std.specs.String.{string_bytes}
use Rattle.live_set.specs.Loads.{LoadValue}
use Rattle.live_set.specs.Asks.{QueryValue, IsAnswer as HasText}
use Rattle.live_versions.specs.Batches.{joined_loads, version_of, StartsWith}
use Rattle.desks.specs.declared.desk.Answer.{Answer}

-- the version is that of whole batches, counted from the first, and the text is the query's answer after that many
-- loads
pub record IsVersionedAnswer (batches : List (List LoadValue)) (query : QueryValue) (answer : Answer) : Type 0 where
  pub front : List (List LoadValue)
  pub begins : StartsWith batches front
  pub version_is : answer.version ≡ version_of front
  pub text_is : HasText (take answer.version (joined_loads batches)) query (string_bytes answer.text)

-- one answer for each query, in order; no version is below the one before it, nor the first one below `least`
abbrev pub Answered : List (List LoadValue) → ℕ → List QueryValue → List Answer → Type 0
Answered batches least [] [] = ⊤
Answered batches least (query ∷ queries) (answer ∷ answers) = (least ≤ answer.version)
    × IsVersionedAnswer batches query answer × Answered batches answer.version queries answers
Answered batches least _ _ = ⊥
