-- The law of handles: all calls on a store and on its readers are the steps of one legal history.
use Rattle.std.specs.Prelude.{◌≡◌, ◌⊎◌, ℕ, List, [], ◌∷◌, ◌++◌, Option, Some, MatchOption, map, slice_index_or, ⊤}
use Rattle.std.specs.List.{AllZip, AllByRecursion}
use Rattle.live_loads.specs.Store.{StoreValue}
use Rattle.c_sets.specs.declared.sets.HeldSet.{HeldSet}
use Rattle.live_versions.specs.History.{Event, new_store, state_of, IsLegal}
use Rattle.desks.specs.ServedHistory.{without_entries}
use Rattle.life.specs.Life.{steps_of}
use Rattle.c_handles.specs.Calls.{Handle, Handles, Call, MakesEntrance, MakesReader, AgreesWith, no_handles, IsTrace}
use Rattle.c_handles.specs.Calls.{store_in, view_in}
use Rattle.c_handles.specs.HandleActs.{ReaderAct, work_in, acts_in, GoOn, IsStepOf}

-- ---- the readers of a store

-- the call is one of these
abbrev pub IsAmong : Call → List Call → Type 0
IsAmong call [] = ⊥
IsAmong call (other ∷ calls) = (other ≡ call) ⊎ IsAmong call calls

-- the reader was made at an entrance of the store, or couldn't be made there
pub record IsReaderOf (store : ℕ) (trace : List Call) (reader : ℕ) : Type 0 where
  pub entrance : ℕ
  pub told : Option ℕ
  pub version : ℕ
  pub fault : ℕ
  pub to_store : IsAmong (MakesEntrance store entrance) trace
  pub made : IsAmong (MakesReader entrance reader told version fault) trace

-- what the reader of a handle has seen, if it could be made, is of this store
abbrev pub HasBookOf : StoreValue → Handle HeldSet → Type 0
HasBookOf s reader = MatchOption (view_in reader) ⊤ (λ view. view.book ≡ s.seen.book)

-- the store and each of these readers are at hand together, and `agree` is called
abbrev pub agreements : ℕ → List ℕ → List Call
agreements store readers = map (λ reader. AgreesWith store reader) readers

-- ---- its history

-- the acts of some readers, each numbered by its place in the list; a number without a reader has no acts
abbrev pub acts_of : List Call → List ℕ → ℕ → List ReaderAct
acts_of trace readers place = slice_index_or (map (λ reader. acts_in reader trace) readers) place []

-- The history is one of this store and these readers. It is legal, and ends with what is published and pending. The
-- events that are no reader's are the loads and publishes of the trace, in order, as they were answered. The steps of
-- each reader are its entries and what it was told, in order, with the texts of its look-ups.
pub record IsHistoryOf (s : StoreValue) (store : ℕ) (trace : List Call) (readers : List ℕ) (history : List Event)
    : Type 0 where
  pub legal : IsLegal s.most history
  pub batches : (state_of history).batches ≡ s.seen.batches
  pub pending : (state_of history).pending ≡ s.pending
  pub work_is : without_entries history ≡ work_in store trace
  pub steps : (place : ℕ) → AllZip IsStepOf (acts_of trace readers place) (steps_of place new_store history)

-- ---- the laws

-- the acts of each reader go on from what it had seen
abbrev pub ReadersGoOn : Type 0
ReadersGoOn = (trace : List Call) (h : Handles) (reader : ℕ) → IsTrace no_handles trace h
    → GoOn 0 (acts_in reader trace)

-- a reader that was made at an entrance of a store stays in that store
abbrev pub ReadersStay : Type 0
ReadersStay = (trace : List Call) (h : Handles) (store reader : ℕ) (s : StoreValue) → IsTrace no_handles trace h
    → store_in (h.stores store) ≡ Some s → IsReaderOf store trace reader → HasBookOf s (h.readers reader)

-- whatever a program does with its handles, a store has one history with its readers whenever they are at hand together
abbrev pub HandlesHaveOneHistory : Type 0
HandlesHaveOneHistory = (trace : List Call) (h : Handles) (store : ℕ) (s : StoreValue) (readers : List ℕ)
    → IsTrace no_handles (trace ++ agreements store readers) h → store_in (h.stores store) ≡ Some s
    → AllByRecursion (IsReaderOf store trace) readers
    → (history : List Event) × IsHistoryOf s store trace readers history
