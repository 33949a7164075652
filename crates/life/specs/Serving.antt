-- What a call of `serve` adds to all that was done with its store before.
use Rattle.std.specs.Prelude.{List, [], ◌∷◌, ◌++◌, map}
use Rattle.std.specs.List.{AllZip, AllByRecursion}
use Rattle.std.specs.String.{string_bytes}
use Rattle.live_set.specs.Asks.{QueryValue}
use Rattle.live_set.specs.Loads.{LoadValue}
use Rattle.live_versions.specs.Batches.{version_of, StartsWith}
use Rattle.live_versions.specs.Seen.{SeenValue}
use Rattle.live_versions.specs.Store.{StoreValue}
use Rattle.live_versions.specs.History.{Event}
use Rattle.desks.specs.declared.desk.Answer.{Answer}
use Rattle.desks.specs.declared.desk.Desk.{Desk}
use Rattle.desks.specs.Jobs.{JobValue, Outcome, HasDone}
use Rattle.desks.specs.Desks.{IsServed}
use Rattle.desks.specs.ServedHistory.{IsWork}
use Rattle.life.specs.Acts.{Act, Enters, Learns}
use Rattle.life.specs.Reached.{lists_of, Reached}

-- one entry for each query, with its answer
abbrev pub acts_of_entries : List QueryValue → List Answer → List Act
acts_of_entries (query ∷ queries) (answer ∷ answers) =
    Enters answer.version (record { query = query; text = string_bytes answer.text } ∷ [])
    ∷ acts_of_entries queries answers
acts_of_entries _ _ = []

-- the reader learns what is published, enters for each query, and settles with what is published at the end
abbrev pub served_acts : SeenValue → SeenValue → Desk → Desk → List Act
served_acts start end desk after = Learns (version_of start.batches)
    ∷ (acts_of_entries desk.queries.items after.answers.items ++ Learns (version_of end.batches) ∷ [])

-- what each reader had done, followed by that
abbrev pub with_served : SeenValue → SeenValue → List (List Act) → List Desk → List Desk → List (List Act)
with_served start end (acts ∷ more) (desk ∷ desks) (after ∷ afters) =
    (acts ++ served_acts start end desk after) ∷ with_served start end more desks afters
with_served _ _ _ _ _ = []

-- what the readers of some desks have seen
abbrev pub seen_at : List Desk → List (List (List LoadValue))
seen_at desks = map (λ desk. desk.reader.batches) desks

-- what is reached after a service that was answered Ok: the jobs are events of the publisher, and each reader has
-- settled
pub record ReachedServed (s t : StoreValue) (jobs : List JobValue) (outcomes : List Outcome) (before after : List Desk)
    (work : List Event) (acts : List (List Act)) : Type 0 where
  pub events : List Event
  pub jobs_are : IsWork jobs outcomes events
  pub reached : Reached (lists_of t) (seen_at after) (work ++ events) (with_served s.seen t.seen acts before after)
  pub settled : AllByRecursion (StartsWith t.seen.batches) (seen_at after)

-- `serve`
abbrev pub ServeKeeps : Type 0
ServeKeeps = (s t : StoreValue) (jobs : List JobValue) (outcomes : List Outcome) (before after : List Desk)
    (work : List Event) (acts : List (List Act)) → Reached (lists_of s) (seen_at before) work acts
    → HasDone s jobs outcomes t → AllZip (IsServed s.seen t.seen) before after
    → ReachedServed s t jobs outcomes before after work acts
