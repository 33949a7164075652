-- What a store holds, when it refuses a load of an opened catalogue, and the set of a version.
use Rattle.std.specs.Prelude.{◌≡◌, ℕ, List}
use Rattle.live_set.specs.Loads.{LoadValue, map_of}
use Rattle.live_set.specs.Sets.{SetValue, fold, map_in}
use Rattle.live_loads.specs.Batches.{joined_loads}
use Rattle.live_loads.specs.Seen.{SeenValue}
use Rattle.live_loads.specs.Store.{StoreValue, IsRefusedFor}
use Rattle.live_loads.specs.declared.fault.StoreFault.{StoreFault}

-- the number of loads that a store takes
abbrev pub most_loads : ℕ
most_loads = 288230376151711743

-- what is published, and the pending loads
abbrev pub store_holding : SeenValue → List LoadValue → StoreValue
store_holding seen pending = record { seen = seen; pending = pending; most = most_loads }

-- the load of a catalogue that was opened before is refused for this reason; none of its bytes is read
abbrev pub IsRefusedShared : StoreValue → List ℕ → List ℕ → StoreFault → Type 0
IsRefusedShared s domain locale fault = IsRefusedFor (λ _. ⊥) s domain locale fault

-- the set of a version: for each domain and locale it has the map of the last load published for them
pub record IsSetOf (batches : List (List LoadValue)) (set : SetValue) : Type 0 where
  pub is : set ≡ fold (joined_loads batches)
  pub maps : (domain locale : List ℕ) → map_in set.held domain locale ≡ map_of (joined_loads batches) domain locale
