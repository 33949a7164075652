-- One history of a store that was served: the steps of the publishing thread and each look-up, one after another.
use Rattle.std.specs.Prelude.{◌≡◌, ◌<◌, ◌≤◌, ◌==◌, ⊤, ℕ, if◌then◌else◌, List, [], ◌∷◌, ◌++◌, length, map}
use Rattle.std.specs.Prelude.{slice_index_or, Ok, Err}
use Rattle.std.specs.List.{AllZip}
use Rattle.std.specs.String.{string_bytes}
use Rattle.live_set.specs.Loads.{LoadValue}
use Rattle.live_set.specs.Asks.{QueryValue, IsAnswer as HasText}
use Rattle.live_versions.specs.Batches.{joined_loads, version_of}
use Rattle.live_versions.specs.Store.{StoreValue}
use Rattle.live_versions.specs.History.{Event, Accept, Refuse, Publish, Enter, Learn, State, after, state_from}
use Rattle.live_versions.specs.History.{IsLegalFrom}
use Rattle.desks.specs.declared.desk.Answer.{Answer}
use Rattle.desks.specs.declared.desk.Desk.{Desk}
use Rattle.desks.specs.declared.job.Accepted.{Accepted}
use Rattle.desks.specs.Jobs.{JobValue, Outcome, Brings, HasDone}
use Rattle.desks.specs.Desks.{IsServed}

-- ---- the desks of the workers, numbered from 0: a worker without a desk has nothing

-- the version that a worker's reader has seen
abbrev pub seen_by : List Desk → ℕ → ℕ
seen_by desks worker = slice_index_or (map (λ desk. version_of desk.reader.batches) desks) worker 0

-- a worker's queries
abbrev pub queries_of : List Desk → ℕ → List QueryValue
queries_of desks worker = slice_index_or (map (λ desk. desk.queries.items) desks) worker []

-- a worker's answers
abbrev pub answers_of : List Desk → ℕ → List Answer
answers_of desks worker = slice_index_or (map (λ desk. desk.answers.items) desks) worker []

-- the state at the start: each worker is a reader
abbrev pub start_of : StoreValue → List Desk → State
start_of s desks = record { batches = s.seen.batches; pending = s.pending; seen = seen_by desks }

-- ---- the look-ups

-- what a reader meets when it enters: what is published then, and the version that it had seen
pub record Entry : Type 0 where
  pub batches : List (List LoadValue)
  pub seen : ℕ

-- the reader's entry in this state, if the event is one
abbrev pub entry_in : ℕ → State → Event → List Entry
entry_in reader s (Enter other version) =
    if reader == other then record { batches = s.batches; seen = s.seen reader } ∷ [] else []
entry_in reader s _ = []

-- the reader's entries in a history, in order
abbrev pub entries : ℕ → State → List Event → List Entry
entries reader s [] = []
entries reader s (event ∷ events) = entry_in reader s event ++ entries reader (after s event) events

-- The answer comes from this entry: its version is what is published there, at least what the reader had seen, and its
-- text is the query's answer after all loads published there.
pub record IsAnswerOf (entry : Entry) (query : QueryValue) (answer : Answer) : Type 0 where
  pub version_is : answer.version ≡ version_of entry.batches
  pub no_less : entry.seen ≤ answer.version
  pub text_is : HasText (joined_loads entry.batches) query (string_bytes answer.text)

-- one entry for each query and its answer, in order
abbrev pub AreAnswersOf : List Entry → List QueryValue → List Answer → Type 0
AreAnswersOf [] [] [] = ⊤
AreAnswersOf (entry ∷ entries) (query ∷ queries) (answer ∷ answers) = IsAnswerOf entry query answer
    × AreAnswersOf entries queries answers
AreAnswersOf _ _ _ = ⊥

-- ---- the publishing thread

-- the events of the publishing thread
abbrev pub without_entries : List Event → List Event
without_entries [] = []
without_entries (Enter reader version ∷ events) = without_entries events
without_entries (Learn reader version ∷ events) = without_entries events
without_entries (event ∷ events) = event ∷ without_entries events

-- the load that a job with this outcome adds
abbrev pub IsLoadOf : JobValue → Accepted → LoadValue → Type 0
IsLoadOf job counts load = (load.domain ≡ job.domain) × (load.locale ≡ job.locale)
    × Brings job.source counts load.map

-- each job's load is accepted and published, or it is refused
abbrev pub AreJobs : List JobValue → List Outcome → List Event → Type 0
AreJobs [] [] [] = ⊤
AreJobs (job ∷ jobs) (Ok counts ∷ outcomes) (Accept load ∷ Publish ∷ events) = IsLoadOf job counts load
    × AreJobs jobs outcomes events
AreJobs (job ∷ jobs) (Err fault ∷ outcomes) (Refuse ∷ events) = AreJobs jobs outcomes events
AreJobs _ _ _ = ⊥

-- what was pending is published first
abbrev pub IsWork : List JobValue → List Outcome → List Event → Type 0
IsWork jobs outcomes (Publish ∷ events) = AreJobs jobs outcomes events
IsWork jobs outcomes _ = ⊥

-- ---- the law

-- The history leads from the store and the desks before to those after: it is legal, it ends with what is published and
-- pending at the end, and it has the jobs with their outcomes, each worker's answers, and nothing else.
pub record IsHistoryOf (s t : StoreValue) (jobs : List JobValue) (outcomes : List Outcome) (before after : List Desk)
    (history : List Event) : Type 0 where
  pub legal : IsLegalFrom s.most (start_of s before) history
  pub batches : (state_from (start_of s before) history).batches ≡ t.seen.batches
  pub pending : (state_from (start_of s before) history).pending ≡ t.pending
  pub work : IsWork jobs outcomes (without_entries history)
  pub answers : (worker : ℕ) → AreAnswersOf (entries worker (start_of s before) history) (queries_of before worker)
      (answers_of after worker)
  pub seen : (worker : ℕ) → worker < length after
      → (state_from (start_of s before) history).seen worker ≡ seen_by after worker

-- whatever the schedule of the threads, there is one history
abbrev pub HasOneHistory : Type 0
HasOneHistory = (s t : StoreValue) (jobs : List JobValue) (outcomes : List Outcome) (before after : List Desk)
    → HasDone s jobs outcomes t → AllZip (IsServed s.seen t.seen) before after
    → (history : List Event) × IsHistoryOf s t jobs outcomes before after history
