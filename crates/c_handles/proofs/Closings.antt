-- A trace without its closings is also one.
use Rattle.c_handles.proofs.Common.{◌≡◌, ℕ, List, [], ◌∷◌, refl, ap, subst, ⊤, HeldSet, HeldStore, HeldEntrance}
use Rattle.c_handles.proofs.Common.{IsSetAnswer, set_number, IsNewStore, IsReclaimed, IsStoreNumber, IsNoticeOf}
use Rattle.c_handles.proofs.Common.{IsEntranceOf, IsLeft, Handle, Unused, Open, Handles, Call, OpensStore, Loads}
use Rattle.c_handles.proofs.Common.{Publishes, Reclaims, CountsStore, ClosesStore, MakesNotice, ClosesNotice}
use Rattle.c_handles.proofs.Common.{MakesEntrance, ClosesEntrance, MakesReader, EntersAfter, Leaves, Looks, LooksAt}
use Rattle.c_handles.proofs.Common.{CountsReader, ClosesReader, AgreesWith, no_handles, IsOpen, IsUnused, Makes, Turns}
use Rattle.c_handles.proofs.Common.{Closes, HasFault, LoadsInto, PublishesIn, IsMadeAt, EntersIn, EntersAfterIn}
use Rattle.c_handles.proofs.Common.{LooksAtIn, AgreesIn, DoesToStores, DoesToNotices, DoesToEntrances, DoesToReaders}
use Rattle.c_handles.proofs.Common.{IsStep, IsTrace}
use Rattle.c_stores.specs.declared.stores.HeldNotice.{HeldNotice}
use Rattle.c_handles.specs.Calls.{Enters}
use Rattle.c_handles.specs.Closings.{before_closing, all_kept, without_closings, ClosingsMayComeLast}
use Rattle.c_handles.proofs.Slots.{closed_at}

-- ---- what a call does to a handle

within : {V : Type 0} (P Q : V → Type 0) (x : Handle V) → ((v : V) → P v → Q v) → IsOpen P x
    → IsOpen Q (before_closing x)
within P Q (Open v) gives is = gives v is
within P Q _ gives is = absurd is

open_kept : {V : Type 0} (P : V → Type 0) (x : Handle V) → IsOpen P x → IsOpen P (before_closing x)
open_kept P x is = within P P x (λ v same. same) is

unused_kept : {V : Type 0} (x : Handle V) → IsUnused x → IsUnused (before_closing x)
unused_kept Unused is = tt
unused_kept _ is = absurd is

makes_kept : {V : Type 0} (Is : V → Type 0) (n : ℕ) (before after : ℕ → Handle V) → Makes Is n before after
    → Makes Is n (λ k. before_closing (before k)) (λ k. before_closing (after k))
makes_kept Is n before after is = record {
  unused = unused_kept (before n) is.unused;
  made = open_kept Is (after n) is.made;
  others = λ other no_. ap before_closing (is.others other no_);
}

turns_kept : {V : Type 0} (Is : V → V → Type 0) (n : ℕ) (before after : ℕ → Handle V) → Turns Is n before after
    → Turns Is n (λ k. before_closing (before k)) (λ k. before_closing (after k))
turns_kept Is n before after is = record {
  turned = within (λ old. IsOpen (Is old) (after n)) (λ old. IsOpen (Is old) (before_closing (after n))) (before n)
      (λ old new. open_kept (Is old) (after n) new) is.turned;
  others = λ other no_. ap before_closing (is.others other no_);
}

same_kept : {V : Type 0} (before after : ℕ → Handle V) → after ≡ before
    → ◌≡◌ {A = ℕ → Handle V} (λ k. before_closing (after k)) (λ k. before_closing (before k))
same_kept before after is = λ i k. before_closing (is i k)

closes_kept : {V : Type 0} (n : ℕ) (before after : ℕ → Handle V) → Closes n before after
    → ◌≡◌ {A = ℕ → Handle V} (λ k. before_closing (after k)) (λ k. before_closing (before k))
closes_kept n before after is =
    λ i k. closed_at k n before after (λ b x y. before_closing y ≡ before_closing x) is refl (λ v. refl) i

-- ---- a call, and a trace

all_same : (h after : Handles) → (all_kept after).stores ≡ (all_kept h).stores
    → (all_kept after).notices ≡ (all_kept h).notices → (all_kept after).entrances ≡ (all_kept h).entrances
    → (all_kept after).readers ≡ (all_kept h).readers → all_kept after ≡ all_kept h
all_same h after stores notices entrances readers =
    λ i. record { stores = stores i; notices = notices i; entrances = entrances i; readers = readers i }

-- the call closes no handle
abbrev ClosesNone : Call → Type 0
ClosesNone (ClosesStore n) = ⊥
ClosesNone (ClosesNotice n) = ⊥
ClosesNone (ClosesEntrance n) = ⊥
ClosesNone (ClosesReader n) = ⊥
ClosesNone _ = ⊤

stores_kept : (call : Call) (h : Handles) (next : ℕ → Handle HeldStore) → ClosesNone call → DoesToStores h call next
    → DoesToStores (all_kept h) call (λ k. before_closing (next k))
stores_kept (OpensStore n fault) h next none is =
    makes_kept (λ s. IsNewStore s × HasFault s fault) n h.stores next is
stores_kept (Loads n domain locale file fault) h next none is =
    turns_kept (LoadsInto domain locale file fault) n h.stores next is
stores_kept (Publishes n fault) h next none is = turns_kept (PublishesIn fault) n h.stores next is
stores_kept (Reclaims n) h next none is = turns_kept IsReclaimed n h.stores next is
stores_kept (CountsStore n which number) h next none is =
    (open_kept (λ s. IsStoreNumber s which number) (h.stores n) is.0, same_kept h.stores next is.1)
stores_kept (ClosesStore n) h next none is = absurd none
stores_kept _ h next none is = same_kept h.stores next is

notices_kept : (call : Call) (h : Handles) (next : ℕ → Handle HeldNotice) → ClosesNone call
    → DoesToNotices h call next → DoesToNotices (all_kept h) call (λ k. before_closing (next k))
notices_kept (MakesNotice n notice) h next none is =
    within (λ s. Makes (IsNoticeOf s) notice h.notices next)
    (λ s. Makes (IsNoticeOf s) notice (all_kept h).notices (λ k. before_closing (next k))) (h.stores n)
    (λ s made. makes_kept (IsNoticeOf s) notice h.notices next made) is
notices_kept (ClosesNotice n) h next none is = absurd none
notices_kept _ h next none is = same_kept h.notices next is

entrances_kept : (call : Call) (h : Handles) (next : ℕ → Handle HeldEntrance) → ClosesNone call
    → DoesToEntrances h call next → DoesToEntrances (all_kept h) call (λ k. before_closing (next k))
entrances_kept (MakesEntrance n entrance) h next none is =
    within (λ s. Makes (IsEntranceOf s) entrance h.entrances next)
    (λ s. Makes (IsEntranceOf s) entrance (all_kept h).entrances (λ k. before_closing (next k))) (h.stores n)
    (λ s made. makes_kept (IsEntranceOf s) entrance h.entrances next made) is
entrances_kept (ClosesEntrance n) h next none is = absurd none
entrances_kept _ h next none is = same_kept h.entrances next is

readers_kept : (call : Call) (h : Handles) (next : ℕ → Handle HeldSet) → ClosesNone call → DoesToReaders h call next
    → DoesToReaders (all_kept h) call (λ k. before_closing (next k))
readers_kept (MakesReader e n told version fault) h next none is =
    within (λ e. Makes (IsMadeAt e told version fault) n h.readers next)
    (λ e. Makes (IsMadeAt e told version fault) n (all_kept h).readers (λ k. before_closing (next k))) (h.entrances e)
    (λ e made. makes_kept (IsMadeAt e told version fault) n h.readers next made) is
readers_kept (Enters n version fault) h next none is = turns_kept (EntersIn version fault) n h.readers next is
readers_kept (EntersAfter n notice told version fault) h next none is =
    within (λ m. Turns (EntersAfterIn m told version fault) n h.readers next)
    (λ m. Turns (EntersAfterIn m told version fault) n (all_kept h).readers (λ k. before_closing (next k)))
    (h.notices notice)
    (λ m turns. turns_kept (EntersAfterIn m told version fault) n h.readers next turns) is
readers_kept (Leaves n) h next none is = turns_kept IsLeft n h.readers next is
readers_kept (Looks n domain languages question text) h next none is =
    (open_kept (λ r. IsSetAnswer r domain languages question text) (h.readers n) is.0, same_kept h.readers next is.1)
readers_kept (LooksAt n domain languages places question text) h next none is = (
  open_kept (LooksAtIn domain languages places question text) (h.readers n) is.0,
  same_kept h.readers next is.1,
)
readers_kept (CountsReader n which number) h next none is =
    (open_kept (λ r. number ≡ set_number r which) (h.readers n) is.0, same_kept h.readers next is.1)
readers_kept (AgreesWith n reader) h next none is = (
  within (λ s. IsOpen (AgreesIn s) (h.readers reader)) (λ s. IsOpen (AgreesIn s) (before_closing (h.readers reader)))
      (h.stores n) (λ s agrees. open_kept (AgreesIn s) (h.readers reader) agrees) is.0,
  same_kept h.readers next is.1,
)
readers_kept (ClosesReader n) h next none is = absurd none
readers_kept _ h next none is = same_kept h.readers next is

goes_on : (call : Call) (h after : Handles) → IsStep h call after → (calls : List Call) (last : Handles)
    → IsTrace (all_kept after) (without_closings calls) last
    → IsTrace (all_kept h) (without_closings (call ∷ calls)) last
goes_on (ClosesStore n) h after step calls last rest =
    subst (λ (x : Handles). IsTrace x (without_closings calls) last) (all_same h after
    (closes_kept n h.stores after.stores step.stores) (same_kept h.notices after.notices step.notices)
    (same_kept h.entrances after.entrances step.entrances) (same_kept h.readers after.readers step.readers)) rest
goes_on (ClosesNotice n) h after step calls last rest =
    subst (λ (x : Handles). IsTrace x (without_closings calls) last) (all_same h after
    (same_kept h.stores after.stores step.stores) (closes_kept n h.notices after.notices step.notices)
    (same_kept h.entrances after.entrances step.entrances) (same_kept h.readers after.readers step.readers)) rest
goes_on (ClosesEntrance n) h after step calls last rest =
    subst (λ (x : Handles). IsTrace x (without_closings calls) last) (all_same h after
    (same_kept h.stores after.stores step.stores) (same_kept h.notices after.notices step.notices)
    (closes_kept n h.entrances after.entrances step.entrances) (same_kept h.readers after.readers step.readers)) rest
goes_on (ClosesReader n) h after step calls last rest =
    subst (λ (x : Handles). IsTrace x (without_closings calls) last) (all_same h after
    (same_kept h.stores after.stores step.stores) (same_kept h.notices after.notices step.notices)
    (same_kept h.entrances after.entrances step.entrances) (closes_kept n h.readers after.readers step.readers)) rest
goes_on call h after step calls last rest = (
  all_kept after,
  record {
    stores = stores_kept call h after.stores tt step.stores;
    notices = notices_kept call h after.notices tt step.notices;
    entrances = entrances_kept call h after.entrances tt step.entrances;
    readers = readers_kept call h after.readers tt step.readers;
  },
  rest,
)

pub closings_may_come_last : ClosingsMayComeLast
closings_may_come_last trace h is = all trace no_handles h is where
  all : (calls : List Call) (h last : Handles) → IsTrace h calls last
      → IsTrace (all_kept h) (without_closings calls) (all_kept last)
  all [] h last is = ap all_kept is
  all (call ∷ calls) h last (between, step, rest) =
      goes_on call h between step calls (all_kept last) (all calls between last rest)
