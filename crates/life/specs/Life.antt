-- One history of a whole store: all that its publisher and its readers did, step by step.
use Rattle.std.specs.Prelude.{◌≡◌, ℕ, ◌≤◌, ◌==◌, if◌then◌else◌, List, [], ◌∷◌, ◌++◌, map, slice_index_or}
use Rattle.std.specs.List.{AllZip}
use Rattle.live_set.specs.Loads.{LoadValue}
use Rattle.live_versions.specs.Batches.{joined_loads, version_of}
use Rattle.live_versions.specs.History.{Event, Enter, Learn, State, new_store, after, state_of, IsLegal}
use Rattle.desks.specs.ServedHistory.{without_entries}
use Rattle.life.specs.Acts.{Act, Enters, Learns, AreTexts}
use Rattle.life.specs.Reached.{StoreLists}

-- what a reader meets at a step of its own: if it enters, what is published then, and the version that it had seen;
-- if it learns of a notice, the notice's version
pub data Met : Type 0 where
  Entry : (batches : List (List LoadValue)) (seen : ℕ) → Met
  Notice : (version : ℕ) → Met

-- the reader's step, if the event is one
abbrev pub met_in : ℕ → State → Event → List Met
met_in reader s (Enter other version) = if reader == other then Entry s.batches (s.seen reader) ∷ [] else []
met_in reader s (Learn other version) = if reader == other then Notice version ∷ [] else []
met_in reader s _ = []

-- the reader's steps in a history, in order
abbrev pub steps_of : ℕ → State → List Event → List Met
steps_of reader s [] = []
steps_of reader s (event ∷ events) = met_in reader s event ++ steps_of reader (after s event) events

-- The step is this act: an entry's version is the length of the list that is published there, no less than what the
-- reader had seen, and each text is its query's over all loads that are published there.
abbrev pub IsStepOf : Act → Met → Type 0
IsStepOf (Enters version looked) (Entry batches seen) = (version ≡ version_of batches) × (seen ≤ version)
    × AreTexts (joined_loads batches) looked
IsStepOf (Learns version) (Notice told) = told ≡ version
IsStepOf _ _ = ⊥

-- a reader's acts; readers are counted from 0, and one that isn't there does nothing
abbrev pub acts_of : List (List Act) → ℕ → List Act
acts_of acts reader = slice_index_or acts reader []

-- the version that a reader has seen
abbrev pub seen_of : List (List (List LoadValue)) → ℕ → ℕ
seen_of seen reader = slice_index_or (map version_of seen) reader 0

-- The history is one of this store and these readers from the opening on. It is legal, and it ends with what is
-- published, pending and seen. In it are the publisher's work and each reader's acts, in order, and nothing else.
pub record IsLifeOf (s : StoreLists) (readers : List (List (List LoadValue))) (work : List Event)
    (acts : List (List Act)) (history : List Event) : Type 0 where
  pub legal : IsLegal s.most history
  pub batches : (state_of history).batches ≡ s.batches
  pub pending : (state_of history).pending ≡ s.pending
  pub seen : (reader : ℕ) → (state_of history).seen reader ≡ seen_of readers reader
  pub work_is : without_entries history ≡ work
  pub steps : (reader : ℕ) → AllZip IsStepOf (acts_of acts reader) (steps_of reader new_store history)
