-- What a reader does, call by call, and what it sees.
use Rattle.std.specs.Prelude.{◌≡◌, ◌⊎◌, ℕ, List, [], ◌∷◌}
use Rattle.std.specs.List.{AllByRecursion}
use Rattle.live_set.specs.Loads.{LoadValue}
use Rattle.live_set.specs.Asks.{QueryValue, IsAnswer as HasText}
use Rattle.live_versions.specs.Batches.{joined_loads, version_of, StartsWith}

-- a query, and the text that it was answered
pub record Looked : Type 0 where
  pub query : QueryValue
  pub text : List ℕ

-- a reader entered, was given this version, looked these up and left; or it learnt of a notice of this version
pub data Act : Type 0 where
  Enters : (version : ℕ) (looked : List Looked) → Act
  Learns : (version : ℕ) → Act

-- each text is its query's over these loads
abbrev pub AreTexts : List LoadValue → List Looked → Type 0
AreTexts loads looked = AllByRecursion (λ l. HasText loads l.query l.text) looked

-- an entry shows these batches, which begin with all that the reader had seen
pub record IsEntry (seen : List (List LoadValue)) (version : ℕ) (looked : List Looked) (next : List (List LoadValue))
    : Type 0 where
  pub later : StartsWith next seen
  pub version_is : version ≡ version_of next
  pub texts : AreTexts (joined_loads next) looked

-- after a notice of this version the longer of both lists is seen
pub record IsLearning (seen : List (List LoadValue)) (version : ℕ) (next : List (List LoadValue)) : Type 0 where
  pub notice : List (List LoadValue)
  pub version_is : version ≡ version_of notice
  pub later : StartsWith next seen
  pub told : StartsWith next notice
  pub one : (next ≡ seen) ⊎ (next ≡ notice)

-- what a reader has seen before an act, and after it
abbrev pub Leads : List (List LoadValue) → Act → List (List LoadValue) → Type 0
Leads seen (Enters version looked) next = IsEntry seen version looked next
Leads seen (Learns version) next = IsLearning seen version next

-- what it has seen before some acts, and after them
abbrev pub LeadsAll : List (List LoadValue) → List Act → List (List LoadValue) → Type 0
LeadsAll seen [] end = end ≡ seen
LeadsAll seen (act ∷ acts) end = (next : List (List LoadValue)) × Leads seen act next × LeadsAll next acts end
