-- The history of a store as a list of events: which may happen, and what each does.
use Rattle.std.specs.Prelude.{◌≡◌, ⊤, ℕ, ◌+◌, ◌<◌, ◌≤◌, ◌==◌, max, if◌then◌else◌, List, [], ◌∷◌, ◌++◌, length, fold}
use Rattle.live_set.specs.Loads.{LoadValue}
use Rattle.live_loads.specs.Batches.{version_of, StartsWith, after_publish}

-- a load is accepted or refused; the pending loads are published; a reader enters the version that is published; a
-- reader learns of a version that was published
pub data Event : Type 0 where
  Accept : (load : LoadValue) → Event
  Refuse : Event
  Publish : Event
  Enter : (reader version : ℕ) → Event
  Learn : (reader version : ℕ) → Event

-- the published batches, the pending loads, and the greatest version that each reader has entered or learnt of
pub record State : Type 0 where
  pub batches : List (List LoadValue)
  pub pending : List LoadValue
  pub seen : ℕ → ℕ

-- a new store: nothing is published, pending or seen
abbrev pub new_store : State
new_store = record { batches = []; pending = []; seen = λ reader. 0 }

-- the versions seen, with this reader's replaced
abbrev pub with_seen : State → ℕ → ℕ → State
with_seen s reader version = record s { seen = λ other. if other == reader then version else s.seen other }

-- what an event does
abbrev pub after : State → Event → State
after s (Accept load) = record s { pending = s.pending ++ load ∷ [] }
after s Refuse = s
after s Publish = record s { batches = after_publish s.batches s.pending; pending = [] }
after s (Enter reader version) = with_seen s reader version
after s (Learn reader version) = with_seen s reader (max (s.seen reader) version)

-- the state after a history that starts here
abbrev pub state_from : State → List Event → State
state_from start history = fold after start history

-- the state after a history of a new store
abbrev pub state_of : List Event → State
state_of history = state_from new_store history

-- the version was published after some beginning of the history
abbrev pub WasPublished : State → List Event → ℕ → Type 0
WasPublished start history version = (first rest : List Event) × (history ≡ first ++ rest)
    × (version ≡ version_of (state_from start first).batches)

-- the event may follow this history, in a store that takes at most `most` loads
abbrev pub MayFollow : ℕ → State → List Event → Event → Type 0
MayFollow most start history (Accept load) = version_of (state_from start history).batches
    + length (state_from start history).pending < most
MayFollow most start history Refuse = ⊤
MayFollow most start history Publish = ⊤
MayFollow most start history (Enter reader version) = version ≡ version_of (state_from start history).batches
MayFollow most start history (Learn reader version) = WasPublished start history version

-- each event may follow those before it, starting here
abbrev pub IsLegalFrom : ℕ → State → List Event → Type 0
IsLegalFrom most start history = (first : List Event) (event : Event) (rest : List Event)
    → history ≡ first ++ event ∷ rest → MayFollow most start first event

-- each event of a new store may follow those before it
abbrev pub IsLegal : ℕ → List Event → Type 0
IsLegal most history = IsLegalFrom most new_store history

-- the version is that of whole batches, counted from the first
abbrev pub IsWhole : State → ℕ → Type 0
IsWhole s version = (front : List (List LoadValue)) × StartsWith s.batches front × (version ≡ version_of front)

-- ---- the laws

-- in every legal history, the version that a reader has seen never falls
abbrev pub NeverFalls : Type 0
NeverFalls = (most : ℕ) (first rest : List Event) (reader : ℕ) → IsLegal most (first ++ rest)
    → (state_of first).seen reader ≤ (state_of (first ++ rest)).seen reader

-- a reader enters no version below one that it entered or learnt of before
abbrev pub EntersNoLess : Type 0
EntersNoLess = (most : ℕ) (first between : List Event) (reader version : ℕ)
    → IsLegal most ((first ++ between) ++ Enter reader version ∷ []) → (state_of first).seen reader ≤ version

-- every version that a reader has seen is that of whole batches, counted from the first
abbrev pub SeesWholeBatches : Type 0
SeesWholeBatches = (most : ℕ) (history : List Event) (reader : ℕ) → IsLegal most history
    → IsWhole (state_of history) ((state_of history).seen reader)

-- every version that a reader enters is that of whole batches, counted from the first
abbrev pub EntersWholeBatches : Type 0
EntersWholeBatches = (most : ℕ) (history : List Event) (reader version : ℕ)
    → IsLegal most (history ++ Enter reader version ∷ []) → IsWhole (state_of history) version
