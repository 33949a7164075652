-- The promise of a store, as one statement over a whole run of it.
use Rattle.std.specs.Prelude.{◌≡◌, ℕ, List, map}
use Rattle.std.specs.List.{AllZip, AllByRecursion}
use Rattle.live_versions.specs.Batches.{version_of}
use Rattle.live_versions.specs.History.{Event, new_store, state_of, IsLegal}
use Rattle.desks.specs.ServedHistory.{without_entries}
use Rattle.life.specs.declared.client.Client.{Client}
use Rattle.life.specs.declared.command.Command.{Command}
use Rattle.life.specs.declared.command.Outcome.{Outcome}
use Rattle.life.specs.Acts.{Act}
use Rattle.life.specs.Replies.{AreReplies}
use Rattle.life.specs.Clients.{run_acts}
use Rattle.life.specs.Life.{IsStepOf, acts_of, steps_of}
use Rattle.life.specs.PublisherWork.{AreCommands}

-- each client's acts from the opening to the end: a notice of nothing, for each request an entry with the texts of all
-- its queries, after the notice that it learnt if it is to learn first, and a notice of the end
abbrev pub client_acts : ℕ → List Client → List (List Act)
client_acts end clients = map (run_acts 0 end) clients

-- There is one legal history from the opening of a store that accepts `most` loads. The commands with their outcomes
-- are its events that are no reader's. The steps of each reader in it are entries, one for each request, in order,
-- with the reply that it was given, between a notice of nothing and one of what is published at the end. If a reply
-- names a notice, it is learnt just before the entry. All queries of a request are answered over what is published at
-- that one step.
pub record IsRun (most : ℕ) (commands : List Command) (outcomes : List Outcome) (clients : List Client) : Type 0 where
  pub history : List Event
  pub legal : IsLegal most history
  pub commands_are : AreCommands most new_store commands outcomes (without_entries history)
  pub each : AllByRecursion (λ client. AreReplies client.requests.items client.replies.items) clients
  pub end : ℕ
  pub end_is : end ≡ version_of (state_of history).batches
  pub answers : (reader : ℕ) → AllZip IsStepOf (acts_of (client_acts end clients) reader)
      (steps_of reader new_store history)
