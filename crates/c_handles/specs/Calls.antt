-- The handles of a C program, and what each call of the library does to them.
use Rattle.std.specs.Prelude.{◌≡◌, ◌==◌, ◌≤◌, ⊤, ℕ, List, [], ◌∷◌, Option, None, false}
use Rattle.std.specs.Option.{option_map}
use Rattle.live_set.specs.SetPlaces.{listed_places, most_places}
use Rattle.live_set.specs.declared.places.Places.{Places}
use Rattle.live_loads.specs.Batches.{version_of}
use Rattle.live_loads.specs.Seen.{SeenValue}
use Rattle.live_loads.specs.Store.{StoreValue}
use Rattle.c_answers.specs.Answering.{Question}
use Rattle.c_answers.specs.Numbers.{the_fault, the_version}
use Rattle.c_answers.specs.declared.opened.Opened.{Opened}
use Rattle.c_sets.specs.NamedPlaces.{AreSetPlaces, IsSetAnswerAt}
use Rattle.c_sets.specs.Making.{IsSetAnswer, any_reader_in, set_number}
use Rattle.c_sets.specs.declared.sets.HeldSet.{HeldSet}
use Rattle.c_stores.specs.Storing.{IsNewStore, IsLoaded, IsPublished, IsReclaimed, IsStoreNumber, IsNoticeOf}
use Rattle.c_stores.specs.Storing.{IsEntranceOf, IsReaderFrom, IsEntered, IsLeft, AreOfOne, IsEnteredAfter}
use Rattle.c_stores.specs.declared.stores.HeldStore.{HeldStore}
use Rattle.c_stores.specs.declared.stores.HeldNotice.{HeldNotice}
use Rattle.c_stores.specs.declared.stores.HeldEntrance.{HeldEntrance}
use Rattle.c_handles.specs.HandleAgreement.{AreOfOneStore, Agrees}

-- ---- handles

-- a handle isn't made yet, is open with this value, or was closed with it
pub data Handle (V : Type 0) : Type 0 where
  Unused : Handle V
  Open : V → Handle V
  Closed : V → Handle V

-- all handles of a program: each kind is numbered on its own, and no number is used twice
pub record Handles : Type 0 where
  pub stores : ℕ → Handle HeldStore
  pub notices : ℕ → Handle HeldNotice
  pub entrances : ℕ → Handle HeldEntrance
  pub readers : ℕ → Handle HeldSet

-- a program that has made no handle
abbrev pub no_handles : Handles
no_handles = record {
  stores = λ n. Unused;
  notices = λ n. Unused;
  entrances = λ n. Unused;
  readers = λ n. Unused;
}

-- ---- calls

-- A call, with the numbers of its handles, its arguments, and what C reads afterwards: a fault, a version, or the text
-- of a look-up. `told` is the version of the notice, or of the entrance when it was made; a store that couldn't be
-- opened has none. `AgreesWith` is `agree`, which C doesn't call: it does nothing, and says something of two handles.
pub data Call : Type 0 where
  OpensStore : (store fault : ℕ) → Call
  Loads : (store : ℕ) (domain locale : List ℕ) (opened : Opened) (fault : ℕ) → Call
  Publishes : (store fault : ℕ) → Call
  Reclaims : (store : ℕ) → Call
  CountsStore : (store which number : ℕ) → Call
  ClosesStore : (store : ℕ) → Call
  MakesNotice : (store notice : ℕ) → Call
  ClosesNotice : (notice : ℕ) → Call
  MakesEntrance : (store entrance : ℕ) → Call
  ClosesEntrance : (entrance : ℕ) → Call
  MakesReader : (entrance reader : ℕ) (told : Option ℕ) (version fault : ℕ) → Call
  Enters : (reader version fault : ℕ) → Call
  EntersAfter : (reader notice : ℕ) (told : Option ℕ) (version fault : ℕ) → Call
  Leaves : (reader : ℕ) → Call
  Looks : (reader : ℕ) (domain languages : List ℕ) (question : Question) (text : List ℕ) → Call
  LooksAt : (reader : ℕ) (domain languages : List ℕ) (places : Places) (question : Question) (text : List ℕ) → Call
  CountsReader : (reader which number : ℕ) → Call
  ClosesReader : (reader : ℕ) → Call
  AgreesWith : (store reader : ℕ) → Call

-- ---- what a call does to a handle

-- the handle is open, and this is true of its value
abbrev pub IsOpen : {V : Type 0} → (V → Type 0) → Handle V → Type 0
IsOpen Is (Open value) = Is value
IsOpen Is _ = ⊥

-- it was closed, and this is true of its value
abbrev pub IsClosed : {V : Type 0} → (V → Type 0) → Handle V → Type 0
IsClosed Is (Closed value) = Is value
IsClosed Is _ = ⊥

abbrev pub IsUnused : {V : Type 0} → Handle V → Type 0
IsUnused Unused = ⊤
IsUnused _ = ⊥

-- all other handles of the kind stay
abbrev pub OthersStay : {V : Type 0} → ℕ → (ℕ → Handle V) → (ℕ → Handle V) → Type 0
OthersStay n before after = (other : ℕ) → (other == n) ≡ false → after other ≡ before other

-- handle n is made
pub record Makes {V : Type 0} (Is : V → Type 0) (n : ℕ) (before after : ℕ → Handle V) : Type 0 where
  pub unused : IsUnused (before n)
  pub made : IsOpen Is (after n)
  pub others : OthersStay n before after

-- handle n is open before and after, and its values are related so
pub record Turns {V : Type 0} (Is : V → V → Type 0) (n : ℕ) (before after : ℕ → Handle V) : Type 0 where
  pub turned : IsOpen (λ old. IsOpen (Is old) (after n)) (before n)
  pub others : OthersStay n before after

-- handle n is closed
pub record Closes {V : Type 0} (n : ℕ) (before after : ℕ → Handle V) : Type 0 where
  pub closed : IsOpen (λ old. IsClosed (λ last. last ≡ old) (after n)) (before n)
  pub others : OthersStay n before after

-- ---- what a call does

-- what C reads of a store after a call
abbrev pub HasFault : HeldStore → ℕ → Type 0
HasFault store fault = IsStoreNumber store the_fault fault

-- what C reads of a reader after a call
pub record HasNumbers (reader : HeldSet) (version fault : ℕ) : Type 0 where
  pub version_is : version ≡ set_number reader the_version
  pub fault_is : fault ≡ set_number reader the_fault

abbrev pub told_by_notice : HeldNotice → Option ℕ
told_by_notice notice = option_map (λ n. version_of n.batches) notice.notice

abbrev pub told_by_entrance : HeldEntrance → Option ℕ
told_by_entrance entrance = option_map (λ e. version_of e.batches) entrance.entrance

-- a load, with the fault that is read after it
pub record LoadsInto (domain locale : List ℕ) (opened : Opened) (fault : ℕ) (old new : HeldStore) : Type 0 where
  pub loaded : IsLoaded old domain locale opened new
  pub fault_is : HasFault new fault

-- a publish, with the fault that is read after it
pub record PublishesIn (fault : ℕ) (old new : HeldStore) : Type 0 where
  pub published : IsPublished old new
  pub fault_is : HasFault new fault

-- what a call does to the stores
abbrev pub DoesToStores : Handles → Call → (ℕ → Handle HeldStore) → Type 0
DoesToStores h (OpensStore store fault) after = Makes (λ s. IsNewStore s × HasFault s fault) store h.stores after
DoesToStores h (Loads store domain locale opened fault) after =
    Turns (LoadsInto domain locale opened fault) store h.stores after
DoesToStores h (Publishes store fault) after = Turns (PublishesIn fault) store h.stores after
DoesToStores h (Reclaims store) after = Turns IsReclaimed store h.stores after
DoesToStores h (CountsStore store which number) after =
    IsOpen (λ s. IsStoreNumber s which number) (h.stores store) × (after ≡ h.stores)
DoesToStores h (ClosesStore store) after = Closes store h.stores after
DoesToStores h _ after = after ≡ h.stores

-- to the notices
abbrev pub DoesToNotices : Handles → Call → (ℕ → Handle HeldNotice) → Type 0
DoesToNotices h (MakesNotice store notice) after =
    IsOpen (λ s. Makes (IsNoticeOf s) notice h.notices after) (h.stores store)
DoesToNotices h (ClosesNotice notice) after = Closes notice h.notices after
DoesToNotices h _ after = after ≡ h.notices

-- to the entrances
abbrev pub DoesToEntrances : Handles → Call → (ℕ → Handle HeldEntrance) → Type 0
DoesToEntrances h (MakesEntrance store entrance) after =
    IsOpen (λ s. Makes (IsEntranceOf s) entrance h.entrances after) (h.stores store)
DoesToEntrances h (ClosesEntrance entrance) after = Closes entrance h.entrances after
DoesToEntrances h _ after = after ≡ h.entrances

-- a reader is made at an entrance
pub record IsMadeAt (e : HeldEntrance) (told : Option ℕ) (version fault : ℕ) (reader : HeldSet) : Type 0 where
  pub made : IsReaderFrom e reader
  pub told_is : told ≡ told_by_entrance e
  pub numbers : HasNumbers reader version fault

-- a reader enters
pub record EntersIn (version fault : ℕ) (old new : HeldSet) : Type 0 where
  pub entered : IsEntered old new
  pub numbers : HasNumbers new version fault

-- a reader enters after a notice of its store
pub record EntersAfterIn (n : HeldNotice) (told : Option ℕ) (version fault : ℕ) (old new : HeldSet) : Type 0 where
  pub one_store : AreOfOne old n
  pub entered : IsEnteredAfter old n new
  pub told_is : told ≡ told_by_notice n
  pub numbers : HasNumbers new version fault

-- a look-up at places that were listed in the version that the reader is in, not more than a list has
pub record LooksAtIn (domain languages : List ℕ) (places : Places) (question : Question) (text : List ℕ)
    (reader : HeldSet) : Type 0 where
  pub places_are : AreSetPlaces reader domain languages places
  pub few : places.count ≤ most_places
  pub answer : IsSetAnswerAt reader (listed_places places) question text

-- what `agree` says of a store and a reader at hand, if they are of one store
abbrev pub AgreesIn : HeldStore → HeldSet → Type 0
AgreesIn store reader = AreOfOneStore store reader → Agrees store reader

-- to the readers
abbrev pub DoesToReaders : Handles → Call → (ℕ → Handle HeldSet) → Type 0
DoesToReaders h (MakesReader entrance reader told version fault) after =
    IsOpen (λ e. Makes (IsMadeAt e told version fault) reader h.readers after) (h.entrances entrance)
DoesToReaders h (Enters reader version fault) after = Turns (EntersIn version fault) reader h.readers after
DoesToReaders h (EntersAfter reader notice told version fault) after =
    IsOpen (λ n. Turns (EntersAfterIn n told version fault) reader h.readers after) (h.notices notice)
DoesToReaders h (Leaves reader) after = Turns IsLeft reader h.readers after
DoesToReaders h (Looks reader domain languages question text) after =
    IsOpen (λ r. IsSetAnswer r domain languages question text) (h.readers reader) × (after ≡ h.readers)
DoesToReaders h (LooksAt reader domain languages places question text) after =
    IsOpen (LooksAtIn domain languages places question text) (h.readers reader) × (after ≡ h.readers)
DoesToReaders h (CountsReader reader which number) after =
    IsOpen (λ r. number ≡ set_number r which) (h.readers reader) × (after ≡ h.readers)
DoesToReaders h (ClosesReader reader) after = Closes reader h.readers after
DoesToReaders h (AgreesWith store reader) after =
    IsOpen (λ s. IsOpen (AgreesIn s) (h.readers reader)) (h.stores store) × (after ≡ h.readers)
DoesToReaders h _ after = after ≡ h.readers

-- what a call does to all handles
pub record IsStep (h : Handles) (call : Call) (after : Handles) : Type 0 where
  pub stores : DoesToStores h call after.stores
  pub notices : DoesToNotices h call after.notices
  pub entrances : DoesToEntrances h call after.entrances
  pub readers : DoesToReaders h call after.readers

-- the calls of all threads, one after another, each of which took the handles as the one before left them
abbrev pub IsTrace : Handles → List Call → Handles → Type 0
IsTrace h [] after = after ≡ h
IsTrace h (call ∷ calls) after = (between : Handles) × IsStep h call between × IsTrace between calls after

-- ---- what a handle has

-- the store of a handle, also after it was closed, if it could be opened
abbrev pub store_in : Handle HeldStore → Option StoreValue
store_in Unused = None
store_in (Open held) = held.publisher
store_in (Closed held) = held.publisher

-- what the reader of a handle has seen, also after it was closed, if it could be made
abbrev pub view_in : Handle HeldSet → Option SeenValue
view_in Unused = None
view_in (Open held) = any_reader_in held.origin
view_in (Closed held) = any_reader_in held.origin
