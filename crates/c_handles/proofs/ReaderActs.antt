-- The acts of a reader in a trace lead from nothing to what it has seen, or to a beginning of that.
use Rattle.c_handles.proofs.Common.{◌≡◌, ℕ, ◌==◌, Bool, true, false, if◌then◌else◌, List, [], ◌∷◌, refl, sym, ap, ◌∙◌}
use Rattle.c_handles.proofs.Common.{subst, inl, inr, Option, None, Some, MatchOption, LoadValue, joined_loads}
use Rattle.c_handles.proofs.Common.{version_of, StartsWith, SeenValue, begins_refl, begins_trans, begins_nil, no_fault}
use Rattle.c_handles.proofs.Common.{busy_fault, memory_fault, reader_in, any_reader_in, HeldSet, Origin, Made, Lent}
use Rattle.c_handles.proofs.Common.{Left, Refused, IsReaderFrom, IsEntered, IsEnteredAfter, IsLater, IsStillOut, IsBack}
use Rattle.c_handles.proofs.Common.{IsBackAfter, IsAfter, HasLeft, IsLeft, Handle, Unused, Open, Closed, Handles, Call}
use Rattle.c_handles.proofs.Common.{MakesReader, EntersAfter, Leaves, Looks, LooksAt, CountsReader, ClosesReader}
use Rattle.c_handles.proofs.Common.{AgreesWith, Makes, Turns, HasNumbers, IsMadeAt, EntersIn, EntersAfterIn}
use Rattle.c_handles.proofs.Common.{DoesToReaders, IsTrace, told_by_notice, told_by_entrance, Look, ReaderAct}
use Rattle.c_handles.proofs.Common.{AreAnswered, looks_in, entry_acts, acts_at, acts_in}
use Rattle.c_handles.specs.Calls.{Enters}
use Rattle.c_handles.proofs.Slots.{opened_with, made_at, turned_at, closed_at}
use Rattle.c_handles.proofs.Entries.{ReaderLeadsAll, leads_append, IsToldIn, entry_leads}
use Rattle.c_handles.proofs.Answers.{IsIn, looks_answered}

-- these batches, or more, have been seen; a reader that couldn't be made has a fault
abbrev pub HasSeenIn : List (List LoadValue) → Origin → ℕ → Type 0
HasSeenIn b origin fault = MatchOption (any_reader_in origin) ((fault ≡ memory_fault) × (b ≡ []))
    (λ r. StartsWith r.batches b)

abbrev pub HasSeen : List (List LoadValue) → Handle HeldSet → Type 0
HasSeen b Unused = b ≡ []
HasSeen b (Open held) = HasSeenIn b held.origin held.fault
HasSeen b (Closed held) = HasSeenIn b held.origin held.fault

-- the look-ups that follow are answered in any version that the reader is in
abbrev pub AnswersIn : List Look → Handle HeldSet → Type 0
AnswersIn looks y = (v : List (List LoadValue)) → IsIn v y → AreAnswered (joined_loads v) looks

-- the acts lead from what was seen to what has been seen
abbrev pub Leads : List (List LoadValue) → List ReaderAct → Handle HeldSet → Type 0
Leads b acts y = (next : List (List LoadValue)) × ReaderLeadsAll b acts next × HasSeen next y

idle : (b : List (List LoadValue)) (y : Handle HeldSet) → HasSeen b y → Leads b [] y
idle b y seen = (b, refl, seen)

-- ---- an entry that is refused, and one that isn't

refused : (b : List (List LoadValue)) (told : Option ℕ) (version fault : ℕ) (looks : List Look) (y : Handle HeldSet)
    → (fault == no_fault) ≡ false → HasSeen b y → Leads b (entry_acts told version fault looks) y
refused b told version fault looks y fails seen = subst
    (λ (t : Bool). Leads b (if t then entry_acts told version no_fault looks else []) y) (sym fails) (idle b y seen)

refused_for : (b : List (List LoadValue)) (told : Option ℕ) (version fault why : ℕ) (looks : List Look)
    (y : Handle HeldSet) → fault ≡ why → (why == no_fault) ≡ false → HasSeen b y
    → Leads b (entry_acts told version fault looks) y
refused_for b told version fault why looks y is fails seen =
    refused b told version fault looks y (ap (λ (n : ℕ). n == no_fault) is ∙ fails) seen

-- the reader is in this version
in_version : (b : List (List LoadValue)) (told : Option ℕ) (version fault : ℕ) (looks : List Look) (o : Origin) (f : ℕ)
    → HasNumbers (record { origin = o; fault = f }) version fault → f ≡ no_fault
    → MatchOption (reader_in o) ⊥ (λ r. StartsWith r.batches b × IsToldIn told r.batches)
    → AnswersIn looks (Open (record { origin = o; fault = f }))
    → Leads b (entry_acts told version fault looks) (Open (record { origin = o; fault = f }))
in_version b told version fault looks (Lent r) f numbers none is answers =
    let done : (fault == no_fault) ≡ true = ap (λ (n : ℕ). n == no_fault) (numbers.fault_is ∙ none) in
    subst
    (λ (t : Bool). Leads b (if t then entry_acts told version no_fault looks else [])
    (Open (record { origin = Lent r; fault = f }))) (sym done) (
      r.batches,
      entry_leads b told version looks r.batches is.0 is.1 numbers.version_is (answers r.batches refl),
      begins_refl r.batches,
    )
in_version b told version fault looks _ f numbers none is answers = absurd is

later_in : (b : List (List LoadValue)) (told : Option ℕ) (r : SeenValue) (o : Origin) (f : ℕ) → StartsWith r.batches b
    → IsLater r (record { origin = o; fault = f }) → MatchOption (reader_in o) ⊥ (λ r'. IsToldIn told r'.batches)
    → MatchOption (reader_in o) ⊥ (λ r'. StartsWith r'.batches b × IsToldIn told r'.batches)
later_in b told r (Lent r') f seen is sees = (begins_trans r'.batches r.batches b is.1 seen, sees)
later_in b told r _ f seen is sees = absurd is

not_told : (r : SeenValue) (o : Origin) (f : ℕ) → IsLater r (record { origin = o; fault = f })
    → MatchOption (reader_in o) ⊥ (λ r'. IsToldIn None r'.batches)
not_told r (Lent r') f is = tt
not_told r _ f is = absurd is

told_of : (n : SeenValue) (o : Origin) → MatchOption (reader_in o) ⊥ (λ r'. StartsWith r'.batches n.batches)
    → MatchOption (reader_in o) ⊥ (λ r'. IsToldIn (Some (version_of n.batches)) r'.batches)
told_of n (Lent r') is = (n.batches, refl, is)
told_of n _ is = absurd is

still_out : (b : List (List LoadValue)) (r : SeenValue) (o : Origin) (f : ℕ) → StartsWith r.batches b
    → IsStillOut r (record { origin = o; fault = f }) → HasSeenIn b o f
still_out b r (Left r' set) f seen is = begins_trans r'.batches r.batches b is.1 seen
still_out b r _ f seen is = absurd is

-- what a call leaves as it was
unmoved : (b : List (List LoadValue)) (told : Option ℕ) (version fault : ℕ) (looks : List Look) (o : Origin) (f : ℕ)
    (new : HeldSet) → new ≡ record { origin = o; fault = f } → fault ≡ new.fault → f ≡ memory_fault → HasSeenIn b o f
    → Leads b (entry_acts told version fault looks) (Open new)
unmoved b told version fault looks o f new same is why seen =
    refused_for b told version fault memory_fault looks (Open new) (is ∙ (ap (λ (x : HeldSet). x.fault) same ∙ why))
    refl (subst (λ (x : HeldSet). HasSeenIn b x.origin x.fault) (sym same) seen)

-- ---- `enter`

back : (b : List (List LoadValue)) (version fault : ℕ) (looks : List Look) (r : SeenValue) (new : HeldSet)
    → StartsWith r.batches b → IsBack r new → HasNumbers new version fault → AnswersIn looks (Open new)
    → Leads b (entry_acts None version fault looks) (Open new)
back b version fault looks r new seen (inl (later, none)) numbers answers =
    in_version b None version fault looks new.origin new.fault numbers none
    (later_in b None r new.origin new.fault seen later (not_told r new.origin new.fault later)) answers
back b version fault looks r new seen (inr (out, busy)) numbers answers =
    refused_for b None version fault busy_fault looks (Open new) (numbers.fault_is ∙ busy) refl
    (still_out b r new.origin new.fault seen out)

enters : (b : List (List LoadValue)) (version fault : ℕ) (looks : List Look) (o : Origin) (f : ℕ) (new : HeldSet)
    → IsEntered (record { origin = o; fault = f }) new → HasNumbers new version fault → AnswersIn looks (Open new)
    → HasSeenIn b o f → Leads b (entry_acts None version fault looks) (Open new)
enters b version fault looks (Lent r) f new (later, none) numbers answers seen =
    in_version b None version fault looks new.origin new.fault numbers none
    (later_in b None r new.origin new.fault seen later (not_told r new.origin new.fault later)) answers
enters b version fault looks (Left r set) f new is numbers answers seen =
    back b version fault looks r new seen is numbers answers
enters b version fault looks o f new is numbers answers seen =
    unmoved b None version fault looks o f new is numbers.fault_is seen.0 seen

-- ---- `enter_after`

-- busy, and where it was
after_here : (b : List (List LoadValue)) (version fault : ℕ) (looks : List Look) (r n : SeenValue) (o : Origin) (f : ℕ)
    → StartsWith r.batches b → IsLater r (record { origin = o; fault = f })
    → IsAfter r n (record { origin = o; fault = f }) → HasNumbers (record { origin = o; fault = f }) version fault
    → AnswersIn looks (Open (record { origin = o; fault = f }))
    → Leads b (entry_acts (Some (version_of n.batches)) version fault looks) (Open (record { origin = o; fault = f }))
after_here b version fault looks r n (Lent r') f seen later (inl (none, sees)) numbers answers =
    in_version b (Some (version_of n.batches)) version fault looks (Lent r') f numbers none
    (begins_trans r'.batches r.batches b later.1 seen, (n.batches, refl, sees)) answers
after_here b version fault looks r n (Lent r') f seen later (inr (busy, same)) numbers answers =
    refused_for b (Some (version_of n.batches)) version fault busy_fault looks
    (Open (record { origin = Lent r'; fault = f })) (numbers.fault_is ∙ busy) refl
    (begins_trans r'.batches r.batches b later.1 seen)
after_here b version fault looks r n _ f seen later is numbers answers = absurd later

back_after : (b : List (List LoadValue)) (version fault : ℕ) (looks : List Look) (r n : SeenValue) (new : HeldSet)
    → StartsWith r.batches b → IsBackAfter r n new → HasNumbers new version fault → AnswersIn looks (Open new)
    → Leads b (entry_acts (Some (version_of n.batches)) version fault looks) (Open new)
back_after b version fault looks r n new seen (inl (later, none), sees) numbers answers =
    in_version b (Some (version_of n.batches)) version fault looks new.origin new.fault numbers none
    (later_in b (Some (version_of n.batches)) r new.origin new.fault seen later (told_of n new.origin (sees none)))
    answers
back_after b version fault looks r n new seen (inr (out, busy), sees) numbers answers =
    refused_for b (Some (version_of n.batches)) version fault busy_fault looks (Open new) (numbers.fault_is ∙ busy) refl
    (still_out b r new.origin new.fault seen out)

enters_after : (b : List (List LoadValue)) (notice : Option SeenValue) (version fault : ℕ) (looks : List Look)
    (o : Origin) (f : ℕ) (new : HeldSet)
    → IsEnteredAfter (record { origin = o; fault = f }) (record { notice = notice }) new
    → HasNumbers new version fault → AnswersIn looks (Open new) → HasSeenIn b o f
    → Leads b (entry_acts (told_by_notice (record { notice = notice })) version fault looks) (Open new)
enters_after b None version fault looks (Lent r) f new (later, none) numbers answers seen =
    in_version b None version fault looks new.origin new.fault numbers none
    (later_in b None r new.origin new.fault seen later (not_told r new.origin new.fault later)) answers
enters_after b (Some n) version fault looks (Lent r) f new (later, is) numbers answers seen =
    after_here b version fault looks r n new.origin new.fault seen later is numbers answers
enters_after b None version fault looks (Left r set) f new is numbers answers seen =
    back b version fault looks r new seen is numbers answers
enters_after b (Some n) version fault looks (Left r set) f new is numbers answers seen =
    back_after b version fault looks r n new seen is numbers answers
enters_after b notice version fault looks o f new is numbers answers seen =
    unmoved b (told_by_notice (record { notice = notice })) version fault looks o f new is numbers.fault_is
    seen.0 seen

-- ---- a new reader

new_in : (b : List (List LoadValue)) (entrance : Option SeenValue) (version fault : ℕ) (looks : List Look) (o : Origin)
    (f : ℕ) → IsReaderFrom (record { entrance = entrance }) (record { origin = o; fault = f })
    → HasNumbers (record { origin = o; fault = f }) version fault
    → AnswersIn looks (Open (record { origin = o; fault = f })) → b ≡ []
    → Leads b (entry_acts (told_by_entrance (record { entrance = entrance })) version fault looks)
    (Open (record { origin = o; fault = f }))
new_in b None version fault looks (Lent r) f is numbers answers none = absurd is.1
new_in b (Some e) version fault looks (Lent r) f is numbers answers none =
    in_version b (Some (version_of e.batches)) version fault looks (Lent r) f numbers is.0 (
      subst (λ (l : List (List LoadValue)). StartsWith r.batches l) (sym none) (begins_nil r.batches),
      (e.batches, refl, is.1.1),
    ) answers
new_in b entrance version fault looks (Made set) f is numbers answers none =
    refused_for b (told_by_entrance (record { entrance = entrance })) version fault memory_fault looks
    (Open (record { origin = Made set; fault = f })) (numbers.fault_is ∙ is.fault_is) refl (is.fault_is, none)
new_in b entrance version fault looks (Left r set) f is numbers answers none = absurd (cc (is.refused))
new_in b entrance version fault looks Refused f is numbers answers none =
    refused_for b (told_by_entrance (record { entrance = entrance })) version fault memory_fault looks
    (Open (record { origin = Refused; fault = f })) (numbers.fault_is ∙ is.fault_is) refl (is.fault_is, none)

-- ---- `leave`, and the end of a reader

left_in_place : (b : List (List LoadValue)) (r : SeenValue) (o : Origin) (f : ℕ)
    → HasLeft r o → StartsWith r.batches b → HasSeenIn b o f
left_in_place b r (Left r' set) f is seen =
    subst (λ (x : SeenValue). StartsWith x.batches b) (sym is.0) seen
left_in_place b r _ f is seen = absurd is

leaves : (b : List (List LoadValue)) (o : Origin) (f : ℕ) (new : HeldSet)
    → IsLeft (record { origin = o; fault = f }) new → HasSeenIn b o f → HasSeenIn b new.origin new.fault
leaves b (Lent r) f new is seen = left_in_place b r new.origin new.fault is.0 seen
leaves b (Left r set) f new is seen = left_in_place b r new.origin new.fault is.0 seen
leaves b _ f new is seen = subst (λ (x : HeldSet). HasSeenIn b x.origin x.fault) (sym is) seen

-- ---- a call, and a trace

same_readers : (b : List (List LoadValue)) (k : ℕ) (before after : ℕ → Handle HeldSet) → after ≡ before
    → HasSeen b (before k) → Leads b [] (after k)
same_readers b k before after same seen =
    idle b (after k) (subst (λ (f : ℕ → Handle HeldSet). HasSeen b (f k)) (sym same) seen)

acts_step : (b : List (List LoadValue)) (k : ℕ) (h : Handles) (call : Call) (next : ℕ → Handle HeldSet)
    (looks : List Look) → DoesToReaders h call next → AnswersIn looks (next k) → HasSeen b (h.readers k)
    → Leads b (acts_at k call looks) (next k)
acts_step b k h (MakesReader entrance n told version fault) next looks is answers seen =
    let e = opened_with (λ e. Makes (IsMadeAt e told version fault) n h.readers next) (h.entrances entrance) is in
    made_at (IsMadeAt e.0 told version fault) k n h.readers next
    (λ t x y. AnswersIn looks y → HasSeen b x → Leads b (if t then entry_acts told version fault looks else []) y) e.1
    (λ answers seen. idle b (h.readers k) seen)
    (λ r made answers seen. subst (λ (t : Option ℕ). Leads b (entry_acts t version fault looks) (Open r))
    (sym made.told_is)
    (new_in b e.0.entrance version fault looks r.origin r.fault made.made made.numbers answers seen)) answers seen
acts_step b k h (Enters n version fault) next looks is answers seen =
    turned_at (EntersIn version fault) k n h.readers next
    (λ t x y. AnswersIn looks y → HasSeen b x → Leads b (if t then entry_acts None version fault looks else []) y) is
    (λ answers seen. idle b (h.readers k) seen)
    (λ a c one answers seen. enters b version fault looks a.origin a.fault c one.entered one.numbers answers seen)
    answers seen
acts_step b k h (EntersAfter n notice told version fault) next looks is answers seen =
    let m = opened_with (λ m. Turns (EntersAfterIn m told version fault) n h.readers next) (h.notices notice) is in
    turned_at (EntersAfterIn m.0 told version fault) k n h.readers next
    (λ t x y. AnswersIn looks y → HasSeen b x → Leads b (if t then entry_acts told version fault looks else []) y) m.1
    (λ answers seen. idle b (h.readers k) seen)
    (λ a c one answers seen. subst (λ (t : Option ℕ). Leads b (entry_acts t version fault looks) (Open c))
    (sym one.told_is)
    (enters_after b m.0.notice version fault looks a.origin a.fault c one.entered one.numbers answers seen)) answers
    seen
acts_step b k h (Leaves n) next looks is answers seen =
    turned_at IsLeft k n h.readers next (λ t x y. HasSeen b x → Leads b [] y) is (idle b (h.readers k))
    (λ a c left seen. idle b (Open c) (leaves b a.origin a.fault c left seen)) seen
acts_step b k h (Looks n domain languages question text) next looks is answers seen =
    same_readers b k h.readers next is.1 seen
acts_step b k h (LooksAt n domain languages places question text) next looks is answers seen =
    same_readers b k h.readers next is.1 seen
acts_step b k h (CountsReader n which number) next looks is answers seen = same_readers b k h.readers next is.1 seen
acts_step b k h (AgreesWith store n) next looks is answers seen = same_readers b k h.readers next is.1 seen
acts_step b k h (ClosesReader n) next looks is answers seen =
    closed_at k n h.readers next (λ t x y. HasSeen b x → Leads b [] y) is (idle b (h.readers k))
    (λ a seen. idle b (Closed a) seen) seen
acts_step b k h _ next looks is answers seen = same_readers b k h.readers next is seen

pub acts_lead : (b : List (List LoadValue)) (k : ℕ) (calls : List Call) (h last : Handles) → IsTrace h calls last
    → HasSeen b (h.readers k) → Leads b (acts_in k calls) (last.readers k)
acts_lead b k [] h last is seen =
    idle b (last.readers k) (subst (λ (x : Handles). HasSeen b (x.readers k)) (sym is) seen)
acts_lead b k (call ∷ calls) h last (between, step, rest) seen =
    let one = acts_step b k h call between.readers (looks_in k calls) step.readers
    (λ v now. looks_answered v k calls between last rest now) seen in
    let more = acts_lead one.0 k calls between last rest one.2 in (
      more.0,
      leads_append b (acts_at k call (looks_in k calls)) one.0 (acts_in k calls) more.0 one.1 more.1,
      more.2,
    )
