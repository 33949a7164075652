-- Private: the slots by which an entry is found by the hashes of its key.
use Rattle.std.specs.Prelude.{◌≡◌, ◌⊎◌, ℕ, ◌/◌, ◌<◌, ◌≤◌, List, Option, Some, None, Contains, length, slice_get}
use Rattle.std.specs.List.Sorted.{IsNonDecreasingBy, IsPartitionPoint}
use Rattle.std.specs.Hash.FoldHasher as folding
use Rattle.entry_search.specs.declared.slot_table.Slot.{Slot}
use Rattle.mo_image.specs.Entry.{Entry, key, IsLawfulEntry}
use Rattle.mo_image.specs.Map.{IsLawful}
use Rattle.mo_image.specs.MoFile.{spelling}
use Rattle.mo_image.specs.Extents.{AreExtents, AreExtentsOf}

-- the hash of a key: the upper 32 of the hasher's 64 bits
abbrev pub hash_alone : List ℕ → ℕ
hash_alone key = folding.finish (folding.write folding.initial key) / 4294967296

-- the hash of a context and a msgid in it
abbrev pub hash_within : List ℕ → List ℕ → ℕ
hash_within context id = folding.finish (folding.write (folding.write folding.initial context) id) / 4294967296

-- the hash by which a msgid is looked up, in a context or in none
abbrev pub asked_hash : Option (List ℕ) → List ℕ → ℕ
asked_hash None id = hash_alone id
asked_hash (Some context) id = hash_within context id

-- the hashes by which an entry is found: that of its whole key, and that of its context and msgid
abbrev pub HasHash : Entry → ℕ → Type 0
HasHash e h = (h ≡ hash_alone (key e)) ⊎ (h ≡ asked_hash e.context e.id)

-- every lawful entry with this key has this hash
abbrev pub FindsBy : List ℕ → ℕ → Type 0
FindsBy k h = (e : Entry) → IsLawfulEntry e → key e ≡ k → HasHash e h

-- the hashes of the slots never fall
abbrev pub Climbs : List Slot → Type 0
Climbs slots = IsNonDecreasingBy (λ slot. slot.hash) slots

-- no slot has this hash
abbrev pub HasNoSlot : List Slot → ℕ → Type 0
HasNoSlot slots h = (slot : Slot) → Contains slots slot → slot.hash ≡ h → ⊥

-- two slots of one hash are equal, unless the shared slots have that hash
abbrev pub OneForEachHash : List Slot → List Slot → Type 0
OneForEachHash slots shared =
    (x y : Slot) → Contains slots x → Contains slots y → x.hash ≡ y.hash → HasNoSlot shared x.hash → x ≡ y

-- the slots of an index, and those of hashes that several entries have
pub record IndexValue : Type 0 where
  pub slots : List Slot
  pub shared : List Slot

-- there is a slot of the i-th entry with this hash
abbrev pub HasSlotOf : List Entry → List Slot → ℕ → ℕ → Type 0
HasSlotOf m slots i h = (slot : Slot) × Contains slots slot × AreExtentsOf (spelling m) (length m) i slot.extents
    × (slot.hash ≡ h)

-- there are slots for each entry and no others; a slot may be stored more than once
pub record NamesEntries (m : List Entry) (slots : List Slot) : Type 0 where
  pub each : (i : ℕ) (e : Entry) → slice_get m i ≡ Some e → (h : ℕ) → HasHash e h → HasSlotOf m slots i h
  pub only : (slot : Slot) → Contains slots slot → AreExtents (spelling m) (length m) slot.extents

-- `more` has the slots and those of the i-th entry
pub record AddsSlotsOf (m : List Entry) (i : ℕ) (slots more : List Slot) : Type 0 where
  pub kept : (slot : Slot) → Contains slots slot → Contains more slot
  pub only : (slot : Slot) → Contains more slot
      → Contains slots slot ⊎ AreExtentsOf (spelling m) (length m) i slot.extents
  pub each : (e : Entry) → slice_get m i ≡ Some e → (h : ℕ) → HasHash e h → HasSlotOf m more i h

pub record IsIndex (m : List Entry) (index : IndexValue) : Type 0 where
  pub lawful : IsLawful m
  pub names : NamesEntries m index.slots
  pub one : OneForEachHash index.slots index.shared

-- the first `cut` slots have hashes below the bound, and the others don't
abbrev pub IsCut : List Slot → ℕ → ℕ → Type 0
IsCut slots bound cut = IsPartitionPoint (λ slot. slot.hash < bound) (λ slot. bound ≤ slot.hash) slots cut
