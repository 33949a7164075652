-- Live stores, readers and notices as C holds them: what a call makes of them, and what they answer.
use Rattle.std.specs.Prelude.{◌≡◌, ◌≢◌, ◌≤◌, ◌⊎◌, ⊤, ℕ, List, [], length, Option, None, MatchOption}
use Rattle.std.specs.Option.{option_map, option_map_or}
use Rattle.std.specs.Arc.{arc_value}
use Rattle.mo_image.specs.Entry.{Entry}
use Rattle.live_set.specs.Sets.{no_loads}
use Rattle.live_loads.specs.Batches.{StartsWith, after_publish, version_of}
use Rattle.live_loads.specs.Seen.{SeenValue}
use Rattle.live_loads.specs.Store.{StoreValue, AddsLoad}
use Rattle.live_loads.specs.declared.fault.StoreFault.{StoreFault}
use Rattle.live_loads.specs.declared.fault.StoreFault.TheVariants.{BadName, VersionsSpent}
use Rattle.snapshot_store.specs.Holding.{IsRefusedShared, most_loads}
use Rattle.snapshot_store.specs.declared.fault.PublishFault.{PublishFault}
use Rattle.snapshot_store.specs.declared.fault.PublishFault.TheVariants as publish
use Rattle.c_answers.specs.declared.opened.Opened.{Opened}
use Rattle.c_sets.specs.declared.sets.HeldSet.{HeldSet}
use Rattle.c_stores.specs.declared.stores.HeldStore.{HeldStore}
use Rattle.c_stores.specs.declared.stores.HeldNotice.{HeldNotice}
use Rattle.c_stores.specs.declared.stores.HeldEntrance.{HeldEntrance}
use Rattle.c_sets.specs.declared.sets.Origin.{Origin}
use Rattle.c_sets.specs.declared.sets.Origin.TheVariants.{Left}
use Rattle.c_sets.specs.Making.{IsWithout, any_reader_in, left_in, reader_in}
use Rattle.c_answers.specs.Numbers.{no_fault, memory_fault, name_fault, busy_fault, spent_fault}
use Rattle.c_answers.specs.Numbers.{the_fault, the_version, the_pending}

-- ---- the store

-- a store in which nothing is published or pending, or out of memory
abbrev pub IsNewStore : HeldStore → Type 0
IsNewStore s = MatchOption s.publisher (s.fault ≡ memory_fault)
    (λ p. (s.fault ≡ no_fault) × (p.seen.batches ≡ []) × (p.pending ≡ []))

-- the number of why a load is refused
abbrev pub load_number : StoreFault → ℕ
load_number BadName = name_fault
load_number VersionsSpent = spent_fault
load_number fault = memory_fault

-- the load was accepted, or refused for its first reason, which changes nothing
abbrev pub IsLoad : StoreValue → List ℕ → List ℕ → List Entry → StoreValue → ℕ → Type 0
IsLoad old domain locale map new fault = (AddsLoad old domain locale map new × (fault ≡ no_fault))
    ⊎ ((new ≡ old) × (why : StoreFault) × IsRefusedShared old domain locale why × (fault ≡ load_number why))

-- like IsLoad, with the map of what was opened; if that was refused, nothing changes
abbrev pub IsLoadIn : StoreValue → List ℕ → List ℕ → Opened → HeldStore → Type 0
IsLoadIn old domain locale opened after = MatchOption after.publisher ⊥ (λ new. MatchOption opened.catalogue
    ((new ≡ old) × (after.fault ≡ opened.fault))
    (λ shared. IsLoad old domain locale (arc_value shared) new after.fault))

-- what one load does to the store
abbrev pub IsLoaded : HeldStore → List ℕ → List ℕ → Opened → HeldStore → Type 0
IsLoaded before domain locale opened after = MatchOption before.publisher
    ((after.publisher ≡ None) × (after.fault ≡ memory_fault)) (λ old. IsLoadIn old domain locale opened after)

-- all pending loads are published, as one batch
pub record HasPublished (old new : StoreValue) : Type 0 where
  pub book : new.seen.book ≡ old.seen.book
  pub batches : new.seen.batches ≡ after_publish old.seen.batches old.pending
  pub pending : new.pending ≡ []
  pub most : new.most ≡ old.most

-- the number of why nothing is published
abbrev pub publish_number : PublishFault → ℕ
publish_number publish.Memory = memory_fault
publish_number publish.Busy = busy_fault
publish_number publish.Spent = spent_fault

-- there were pending loads, and they weren't published; nothing changes. Versions are spent only where as many batches
-- are published as the store takes
abbrev pub IsUnpublished : StoreValue → StoreValue → ℕ → Type 0
IsUnpublished old new fault = (new ≡ old) × (old.pending ≢ []) × (why : PublishFault) × (fault ≡ publish_number why)
    × (why ≡ publish.Spent → most_loads ≤ length old.seen.batches)

-- all pending loads are published, or nothing changes
abbrev pub IsPublishedIn : StoreValue → HeldStore → Type 0
IsPublishedIn old after = MatchOption after.publisher ⊥ (λ new. (HasPublished old new × (after.fault ≡ no_fault))
    ⊎ IsUnpublished old new after.fault)

-- what a publish does to the store
abbrev pub IsPublished : HeldStore → HeldStore → Type 0
IsPublished before after = MatchOption before.publisher ((after.publisher ≡ None) × (after.fault ≡ memory_fault))
    (λ old. IsPublishedIn old after)

-- what freeing replaced versions does to the store: nothing
abbrev pub IsReclaimed : HeldStore → HeldStore → Type 0
IsReclaimed before after = after ≡ before

abbrev pub store_version : Option StoreValue → ℕ
store_version s = option_map_or (λ p. version_of p.seen.batches) s 0

abbrev pub store_pending : Option StoreValue → ℕ
store_pending s = option_map_or (λ p. length p.pending) s 0

-- a number of a store: the fault of the last call, how many loads are published, or how many are pending; of other
-- numbers nothing is said
pub record IsStoreNumber (s : HeldStore) (which n : ℕ) : Type 0 where
  pub fault : which ≡ the_fault → n ≡ s.fault
  pub version : which ≡ the_version → n ≡ store_version s.publisher
  pub pending : which ≡ the_pending → n ≡ store_pending s.publisher

-- ---- notices and readers

-- a notice of what is published in the store, if there is one
abbrev pub IsNoticeOf : HeldStore → HeldNotice → Type 0
IsNoticeOf store notice = notice.notice ≡ option_map (λ p. p.seen) store.publisher

-- an entrance to the store, made when this was published
abbrev pub IsEntranceOf : HeldStore → HeldEntrance → Type 0
IsEntranceOf store entrance = MatchOption entrance.entrance ⊤ (λ e. MatchOption store.publisher ⊥ (λ p. e ≡ p.seen))

-- a reader of the entrance's store, in what was published then or in a later version, or out of memory
abbrev pub IsReaderFrom : HeldEntrance → HeldSet → Type 0
IsReaderFrom entrance reader = MatchOption (reader_in reader.origin) (IsWithout memory_fault reader)
    (λ r. (reader.fault ≡ no_fault)
    × MatchOption entrance.entrance ⊥ (λ e. (r.book ≡ e.book) × StartsWith r.batches e.batches))

-- the reader is in the same version or in a later one of the same store
abbrev pub IsLater : SeenValue → HeldSet → Type 0
IsLater r after = MatchOption (reader_in after.origin) ⊥ (λ r'. (r'.book ≡ r.book) × StartsWith r'.batches r.batches)

-- the reader is still out, and has seen the same version or a later one of the same store
abbrev pub IsStillOut : SeenValue → HeldSet → Type 0
IsStillOut r after = MatchOption (left_in after.origin) ⊥ (λ r'. (r'.book ≡ r.book) × StartsWith r'.batches r.batches)

-- a reader that left is in the version that it left or in a later one; if it is told to be busy, it is still out
abbrev pub IsBack : SeenValue → HeldSet → Type 0
IsBack r after = (IsLater r after × (after.fault ≡ no_fault)) ⊎ (IsStillOut r after × (after.fault ≡ busy_fault))

-- what an entry does to the reader; without a reader, nothing
abbrev pub IsEntered : HeldSet → HeldSet → Type 0
IsEntered before after = MatchOption (reader_in before.origin)
    (MatchOption (left_in before.origin) (after ≡ before) (λ r. IsBack r after))
    (λ r. IsLater r after × (after.fault ≡ no_fault))

-- the reader keeps what it has seen, and its set is empty
abbrev pub HasLeft : SeenValue → Origin → Type 0
HasLeft r (Left r' set) = (r' ≡ r) × (set ≡ no_loads)
HasLeft r _ = ⊥

-- what leaving does to the reader; without a reader, nothing
abbrev pub IsLeft : HeldSet → HeldSet → Type 0
IsLeft before after = MatchOption (any_reader_in before.origin) (after ≡ before)
    (λ r. HasLeft r after.origin × (after.fault ≡ no_fault))

-- the reader and the notice are of one store
abbrev pub AreOfOne : HeldSet → HeldNotice → Type 0
AreOfOne reader notice = MatchOption (any_reader_in reader.origin) ⊤
    (λ r. MatchOption notice.notice ⊤ (λ n. n.book ≡ r.book))

-- the reader is in a version that isn't older than the notice; if it is told to be busy, it is where it was
abbrev pub IsAfter : SeenValue → SeenValue → HeldSet → Type 0
IsAfter r n after = MatchOption (reader_in after.origin) ⊥
    (λ r'. ((after.fault ≡ no_fault) × StartsWith r'.batches n.batches) ⊎ ((after.fault ≡ busy_fault) × (r' ≡ r)))

-- a reader that left is in a version that isn't older than the notice; if it is told to be busy, it is still out
abbrev pub IsBackAfter : SeenValue → SeenValue → HeldSet → Type 0
IsBackAfter r n after = IsBack r after × (after.fault ≡ no_fault → MatchOption (reader_in after.origin) ⊥
    (λ r'. StartsWith r'.batches n.batches))

-- what an entry after a notice does to a reader that left; without one, nothing
abbrev pub IsOutEnteredAfter : HeldSet → HeldNotice → HeldSet → Type 0
IsOutEnteredAfter before notice after = MatchOption (left_in before.origin) (after ≡ before)
    (λ r. MatchOption notice.notice (IsBack r after) (λ n. IsBackAfter r n after))

-- what an entry after a notice does to the reader; without a reader, nothing
abbrev pub IsEnteredAfter : HeldSet → HeldNotice → HeldSet → Type 0
IsEnteredAfter before notice after = MatchOption (reader_in before.origin) (IsOutEnteredAfter before notice after)
    (λ r. IsLater r after × MatchOption notice.notice (after.fault ≡ no_fault) (λ n. IsAfter r n after))
