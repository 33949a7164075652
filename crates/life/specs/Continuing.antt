-- What a run of commands and requests adds to all that was done with a store before.
use Rattle.std.specs.Prelude.{◌≡◌, ℕ, List, [], ◌∷◌, ◌++◌}
use Rattle.live_versions.specs.Batches.{version_of}
use Rattle.live_versions.specs.Store.{StoreValue}
use Rattle.live_versions.specs.History.{Event, state_of}
use Rattle.life.specs.declared.client.Client.{Client}
use Rattle.life.specs.declared.command.Command.{Command}
use Rattle.life.specs.declared.command.Outcome.{Outcome}
use Rattle.life.specs.Acts.{Act}
use Rattle.life.specs.Reached.{lists_of, HasWorked, Reached}
use Rattle.life.specs.Life.{IsLifeOf}
use Rattle.life.specs.PublisherWork.{StopsAfter, AreCommands}
use Rattle.life.specs.Clients.{run_acts, seen_by_all}

-- what each reader had done, followed by what it did in a run from one version to another
abbrev pub with_run : ℕ → ℕ → List (List Act) → List Client → List (List Act)
with_run start end (acts ∷ more) (client ∷ clients) =
    (acts ++ run_acts start end client) ∷ with_run start end more clients
with_run _ _ _ _ = []

-- each reader's acts after a run from this store to that one
abbrev pub acts_after : StoreValue → StoreValue → List (List Act) → List Client → List (List Act)
acts_after s t acts after = with_run (version_of s.seen.batches) (version_of t.seen.batches) acts after

-- After a run the commands are events of the publisher, the requests are acts of the readers, and all that was ever
-- done with the store has one history.
pub record Lives (s t : StoreValue) (commands : List Command) (outcomes : List Outcome) (after : List Client)
    (work : List Event) (acts : List (List Act)) : Type 0 where
  pub events : List Event
  pub commands_are : AreCommands s.most (state_of work) commands outcomes events
  pub most : t.most ≡ s.most
  pub reached : Reached (lists_of t) (seen_by_all after) (work ++ events) (acts_after s t acts after)
  pub history : List Event
  pub life : IsLifeOf (lists_of t) (seen_by_all after) (work ++ events) (acts_after s t acts after) history

-- whatever the publisher and the readers had done before
abbrev pub HasLife : StoreValue → StoreValue → List Command → List Outcome → List Client → List Client → Type 0
HasLife s t commands outcomes before after = (work : List Event) (acts : List (List Act))
    → Reached (lists_of s) (seen_by_all before) work acts → Lives s t commands outcomes after work acts

-- even after a run that ended early, what the publisher did is a legal history of its store: some first commands are
-- more events of it
pub record KeepsWorking (work : List Event) (s t : StoreValue) (commands : List Command) : Type 0 where
  pub first : List Command
  pub rest : List Command
  pub split : commands ≡ first ++ rest
  pub outcomes : List Outcome
  pub events : List Event
  pub commands_are : AreCommands s.most (state_of work) first outcomes events
  pub worked : HasWorked (work ++ events) (lists_of t)

-- a run that ended early
abbrev pub StopKeeps : Type 0
StopKeeps = (work : List Event) (s t : StoreValue) (commands : List Command) → HasWorked work (lists_of s)
    → StopsAfter s commands t → KeepsWorking work s t commands
