-- What becomes of a publisher's commands, and which events of a history they are.
use Rattle.std.specs.Prelude.{◌≡◌, ◌≢◌, ⊤, ℕ, List, [], ◌∷◌, ◌++◌}
use Rattle.live_versions.specs.Batches.{version_of}
use Rattle.live_versions.specs.Seen.{SeenValue}
use Rattle.live_versions.specs.Store.{StoreValue, AreNames}
use Rattle.live_versions.specs.History.{Event, State, Accept, Refuse, after, Publish as Publishes}
use Rattle.live_loads.specs.declared.fault.StoreFault.{StoreFault}
use Rattle.desks.specs.Jobs.{JobValue, IsAccepted, IsRefused, store_after_publish}
use Rattle.desks.specs.ServedHistory.{IsLoadOf}
use Rattle.life.specs.declared.command.Command.{Command}
use Rattle.life.specs.declared.command.Command.TheVariants.{Load, Publish}
use Rattle.life.specs.declared.command.Outcome.{Outcome}
use Rattle.life.specs.declared.command.Outcome.TheVariants.{Loaded, Refused, Published, Unpublished}

-- ---- in a store

-- a command is done, with this outcome; a publish is only refused where something is pending
abbrev pub Does : StoreValue → Command → Outcome → StoreValue → Type 0
Does s (Load job) (Loaded counts) t = IsAccepted s job counts t
Does s (Load job) (Refused fault) t = IsRefused s job fault × (t ≡ s)
Does s Publish (Published version) t = (t ≡ store_after_publish s) × (version ≡ version_of t.seen.batches)
Does s Publish Unpublished t = (s.pending ≢ []) × (t ≡ s)
Does s _ _ t = ⊥

-- commands are done one after another, each with its outcome
abbrev pub DoesAll : StoreValue → List Command → List Outcome → StoreValue → Type 0
DoesAll s [] [] t = t ≡ s
DoesAll s (command ∷ commands) (outcome ∷ outcomes) t = (between : StoreValue) × Does s command outcome between
    × DoesAll between commands outcomes t
DoesAll s _ _ t = ⊥

-- some first commands are done, and no other
pub record StopsAfter (s : StoreValue) (commands : List Command) (t : StoreValue) : Type 0 where
  pub first : List Command
  pub rest : List Command
  pub split : commands ≡ first ++ rest
  pub outcomes : List Outcome
  pub done : DoesAll s first outcomes t

-- ---- in a history

-- this store, as it is in this state, if it accepts `most` loads
abbrev pub store_in : ℕ → State → SeenValue → StoreValue
store_in most s store = record { seen = record store { batches = s.batches }; pending = s.pending; most = most }

-- in this state the job's load is refused for this reason, whichever store it is
abbrev pub IsRefusedIn : ℕ → State → JobValue → StoreFault → Type 0
IsRefusedIn most s job fault = (store : SeenValue) → IsRefused (store_in most s store) job fault

-- From this state on the commands with their outcomes are these events, in order. A load is accepted under the names
-- of its job, as the map that the job's source brings, or it is refused for its reason. A publish is answered the
-- length of the list that is then published; one that failed is no event, and something was pending.
abbrev pub AreCommands : ℕ → State → List Command → List Outcome → List Event → Type 0
AreCommands most s [] [] [] = ⊤
AreCommands most s (Load job ∷ commands) (Loaded counts ∷ outcomes) (Accept load ∷ events) =
    AreNames job.domain job.locale × IsLoadOf job counts load
    × AreCommands most (after s (Accept load)) commands outcomes events
AreCommands most s (Load job ∷ commands) (Refused fault ∷ outcomes) (Refuse ∷ events) = IsRefusedIn most s job fault
    × AreCommands most s commands outcomes events
AreCommands most s (Publish ∷ commands) (Published version ∷ outcomes) (Publishes ∷ events) =
    (version ≡ version_of (after s Publishes).batches) × AreCommands most (after s Publishes) commands outcomes events
AreCommands most s (Publish ∷ commands) (Unpublished ∷ outcomes) events = (s.pending ≢ [])
    × AreCommands most s commands outcomes events
AreCommands most s _ _ _ = ⊥
