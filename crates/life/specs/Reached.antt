-- What the publisher and each reader have done since their store was opened.
use Rattle.std.specs.Prelude.{◌≡◌, ⊤, ℕ, List, [], ◌∷◌}
use Rattle.std.specs.List.{AllZip}
use Rattle.live_set.specs.Loads.{LoadValue}
use Rattle.live_versions.specs.Store.{StoreValue}
use Rattle.live_versions.specs.History.{Event, Enter, Learn, state_of, IsLegal}
use Rattle.life.specs.Acts.{Act, LeadsAll}

-- what a history says of a store: how many loads it accepts, and which are published and pending
pub record StoreLists : Type 0 where
  pub most : ℕ
  pub batches : List (List LoadValue)
  pub pending : List LoadValue

-- those of a publisher's store
abbrev pub lists_of : StoreValue → StoreLists
lists_of s = record { most = s.most; batches = s.seen.batches; pending = s.pending }

-- no event is a reader's
abbrev pub NoneIsReaders : List Event → Type 0
NoneIsReaders [] = ⊤
NoneIsReaders (Enter reader version ∷ events) = ⊥
NoneIsReaders (Learn reader version ∷ events) = ⊥
NoneIsReaders (event ∷ events) = NoneIsReaders events

-- the publisher's events are a legal history of the store, and lead to what is published and pending
pub record HasWorked (work : List Event) (s : StoreLists) : Type 0 where
  pub legal : IsLegal s.most work
  pub own : NoneIsReaders work
  pub batches : (state_of work).batches ≡ s.batches
  pub pending : (state_of work).pending ≡ s.pending

-- the reader's acts lead from nothing to what it has seen
abbrev pub HasActed : List Act → List (List LoadValue) → Type 0
HasActed acts seen = LeadsAll [] acts seen

-- a store has come to this: its publisher has done this work, and each of its readers, which has seen this, these acts
pub record Reached (s : StoreLists) (seen : List (List (List LoadValue))) (work : List Event) (acts : List (List Act))
    : Type 0 where
  pub worked : HasWorked work s
  pub acted : AllZip HasActed acts seen
