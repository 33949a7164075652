-- What a publisher has, and what a load does to it.
use Rattle.std.specs.Prelude.{◌≡◌, ◌≢◌, ℕ, ◌+◌, ◌<◌, ◌≤◌, List, [], ◌∷◌, ◌++◌, length}
use Rattle.catalogue.specs.Entry.{Entry}
use Rattle.catalogue.specs.Meaning.{Means, Refuses}
use Rattle.catalogue.specs.declared.Options.{Options}
use Rattle.catalogue.specs.declared.Stats.{Stats}
use Rattle.catalogue.specs.declared.Compiled.{Compiled}
use Rattle.mo_file.specs.MoReading.{Mo, Refused as IsRefusedFile}
use Rattle.mo_file.specs.declared.fault.MoFault.TheVariants as mo_fault
use Rattle.live_set.specs.Names.{IsName}
use Rattle.live_set.specs.Loads.{LoadValue}
use Rattle.live_loads.specs.Batches.{version_of}
use Rattle.live_loads.specs.Seen.{SeenValue}
use Rattle.live_loads.specs.declared.fault.StoreFault.{StoreFault}
use Rattle.live_loads.specs.declared.fault.StoreFault.TheVariants.{BadName, VersionsSpent, Refused, RefusedMo, Memory}
use Rattle.live_loads.specs.declared.load.Room.{Room}

-- all that is published, the pending loads, and the number of loads that the store takes
pub record StoreValue : Type 0 where
  pub seen : SeenValue
  pub pending : List LoadValue
  pub most : ℕ

-- the number of loads accepted: published or pending
abbrev pub accepted_count : StoreValue → ℕ
accepted_count s = version_of s.seen.batches + length s.pending

-- no more loads were accepted than the store takes
abbrev pub IsWithin : StoreValue → Type 0
IsWithin s = accepted_count s ≤ s.most

-- both are names
pub record AreNames (domain locale : List ℕ) : Type 0 where
  pub domain_is : IsName domain
  pub locale_is : IsName locale

-- one more load may be accepted
abbrev pub HasRoom : StoreValue → Type 0
HasRoom s = accepted_count s < s.most

-- a load of this map is accepted: both names are names, there is room, and it becomes the last pending load
pub record AddsLoad (s : StoreValue) (domain locale : List ℕ) (map : List Entry) (after : StoreValue) : Type 0 where
  pub names : AreNames domain locale
  pub room : HasRoom s
  pub after_is : after
      ≡ record s { pending = s.pending ++ record { domain = domain; locale = locale; map = map } ∷ [] }

-- the load of a PO text is accepted, with these counts: what the text compiles to is added
pub record Accepts (s : StoreValue) (domain locale text : List ℕ) (options : Options) (stats : Stats)
    (after : StoreValue) : Type 0 where
  pub compiled : Compiled
  pub means : Means text options compiled
  pub stats_are : stats ≡ compiled.stats
  pub adds : AddsLoad s domain locale compiled.catalogue after

-- the load of an MO file is accepted, with this number of entries: the file's map is added
pub record AcceptsMo (s : StoreValue) (domain locale bytes : List ℕ) (entries : ℕ) (after : StoreValue) : Type 0 where
  pub map : List Entry
  pub is_file : Mo bytes map
  pub entries_are : entries ≡ length map
  pub adds : AddsLoad s domain locale map after

-- the PO text has this fault
abbrev pub IsTextFault : List ℕ → Options → StoreFault → Type 0
IsTextFault text options (Refused fault) = Refuses text options fault.kind fault.line
IsTextFault text options _ = ⊥

-- the MO file has this fault
abbrev pub IsFileFault : List ℕ → StoreFault → Type 0
IsFileFault bytes (RefusedMo fault) = (fault ≢ mo_fault.Memory) × IsRefusedFile bytes fault
IsFileFault bytes _ = ⊥

-- a load whose bytes have such faults is refused for this reason, and for no earlier one, where this many loads were
-- accepted; running out of memory implies that the names and the room were fine, and says nothing of the bytes
abbrev pub IsRefusedIn : (StoreFault → Type 0) → Room → List ℕ → List ℕ → StoreFault → Type 0
IsRefusedIn IsBytesFault room domain locale BadName = ¬ AreNames domain locale
IsRefusedIn IsBytesFault room domain locale VersionsSpent = AreNames domain locale × (room.accepted ≡ room.most)
IsRefusedIn IsBytesFault room domain locale Memory = AreNames domain locale × (room.accepted < room.most)
IsRefusedIn IsBytesFault room domain locale fault = AreNames domain locale × (room.accepted < room.most)
    × IsBytesFault fault

-- how many loads the store has accepted, of how many
abbrev pub room_of : StoreValue → Room
room_of s = record { accepted = accepted_count s; most = s.most }

-- a load whose bytes have such faults is refused by this store for this reason
abbrev pub IsRefusedFor : (StoreFault → Type 0) → StoreValue → List ℕ → List ℕ → StoreFault → Type 0
IsRefusedFor IsBytesFault s = IsRefusedIn IsBytesFault (room_of s)

-- the load of a PO text is refused for this reason
abbrev pub IsRefused : StoreValue → List ℕ → List ℕ → List ℕ → Options → StoreFault → Type 0
IsRefused s domain locale text options = IsRefusedFor (IsTextFault text options) s domain locale

-- the load of an MO file is refused for this reason
abbrev pub IsRefusedMo : StoreValue → List ℕ → List ℕ → List ℕ → StoreFault → Type 0
IsRefusedMo s domain locale bytes = IsRefusedFor (IsFileFault bytes) s domain locale
