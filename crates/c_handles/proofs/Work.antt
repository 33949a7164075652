-- The events of a store in a trace are a legal history of it.
use Rattle.life.proofs.Calls.{added}
use Rattle.c_handles.proofs.Common.{◌≡◌, ◌⊎◌, ℕ, ◌+◌, ◌==◌, Bool, true, false, if◌then◌else◌, List, [], ◌∷◌, ◌++◌, refl}
use Rattle.c_handles.proofs.Common.{sym, ap, ◌∙◌, subst, append_assoc, inl, inr, Option, None, Some, MatchOption, ⊤}
use Rattle.c_handles.proofs.Common.{arc_value, Global, Arc, StoreValue, Event, Accept, Refuse, after, worked_none}
use Rattle.c_handles.proofs.Common.{refusal_keeps, publish_keeps, no_fault, Opened, load_of, IsNewStore, IsLoad}
use Rattle.c_handles.proofs.Common.{IsLoaded, IsPublished, IsReclaimed, HasPublished, IsUnpublished, load_number}
use Rattle.c_handles.proofs.Common.{publish_number, HeldStore, Handle, Unused, Open, Closed, Handles, Call, OpensStore}
use Rattle.c_handles.proofs.Common.{Loads, Publishes, Reclaims, CountsStore, ClosesStore, HasFault, LoadsInto}
use Rattle.c_handles.proofs.Common.{PublishesIn, DoesToStores, IsTrace, load_events, publish_events, events_in, work_in}
use Rattle.std.proofs.lemmas.List.{append-nil}
use Rattle.mo_image.specs.Entry.{Entry}
use Rattle.live_loads.specs.declared.fault.StoreFault.{StoreFault}
use Rattle.live_loads.specs.declared.fault.StoreFault.TheVariants.{BadName}
use Rattle.live_versions.specs.History.{Publish as PublishEvent}
use Rattle.snapshot_store.specs.declared.fault.PublishFault.{PublishFault}
use Rattle.snapshot_store.specs.declared.fault.PublishFault.TheVariants as publish
use Rattle.life.specs.Reached.{lists_of, HasWorked}
use Rattle.c_handles.proofs.Slots.{made_at, turned_at, closed_at}

-- this work was done in the store, if it could be opened
abbrev pub WorkedIn : List Event → Option StoreValue → Type 0
WorkedIn work store = MatchOption store ⊤ (λ s. HasWorked work (lists_of s))

abbrev pub Worked : List Event → Handle HeldStore → Type 0
Worked work Unused = work ≡ []
Worked work (Open held) = WorkedIn work held.publisher
Worked work (Closed held) = WorkedIn work held.publisher

-- ---- a load

load_is_refused : (why : StoreFault) → (load_number why == no_fault) ≡ false
load_is_refused BadName = refl
load_is_refused _ = refl

load_with : (work : List Event) (s t : StoreValue) (domain locale : List ℕ) (map : List Entry) (fault : ℕ)
    → IsLoad s domain locale map t fault → HasWorked work (lists_of s)
    → HasWorked (work ++ (if fault == no_fault then Accept (load_of domain locale map) ∷ [] else Refuse ∷ []))
    (lists_of t)
load_with work s t domain locale map fault (inl (adds, none)) worked =
    let accepted : (fault == no_fault) ≡ true = ap (λ (n : ℕ). n == no_fault) none in
    subst
    (λ (b : Bool). HasWorked (work ++ (if b then Accept (load_of domain locale map) ∷ [] else Refuse ∷ []))
    (lists_of t))
    (sym accepted) (added work s t (load_of domain locale map) worked adds.room adds.after_is)
load_with work s t domain locale map fault (inr (same, why, refused, is)) worked =
    let fails : (fault == no_fault) ≡ false = ap (λ (n : ℕ). n == no_fault) is ∙ load_is_refused why in
    subst
    (λ (b : Bool). HasWorked (work ++ (if b then Accept (load_of domain locale map) ∷ [] else Refuse ∷ []))
    (lists_of t))
    (sym fails) (refusal_keeps work s t worked same)

loaded : (work : List Event) (domain locale : List ℕ) (file : Opened) (catalogue : Option (Arc (List Entry) Global))
    (p q : Option StoreValue) (before after : ℕ)
    → IsLoaded (record { publisher = p; fault = before }) domain locale (record file { catalogue = catalogue })
    (record { publisher = q; fault = after }) → WorkedIn work p
    → WorkedIn (work ++ load_events domain locale (record file { catalogue = catalogue }) after) q
loaded work domain locale file catalogue p None before after is worked = tt
loaded work domain locale file catalogue None (Some t) before after is worked = absurd (cc (is.0))
loaded work domain locale file None (Some s) (Some t) before after is worked = refusal_keeps work s t worked is.0
loaded work domain locale file (Some shared) (Some s) (Some t) before after is worked =
    load_with work s t domain locale (arc_value shared) after is worked

-- ---- a publish

publish_is_refused : (why : PublishFault) → (publish_number why == no_fault) ≡ false
publish_is_refused publish.Memory = refl
publish_is_refused _ = refl

published_some : (work : List Event) (s t : StoreValue) (fault : ℕ)
    → (HasPublished s t × (fault ≡ no_fault)) ⊎ IsUnpublished s t fault → HasWorked work (lists_of s)
    → HasWorked (work ++ publish_events fault) (lists_of t)
published_some work s t fault (inl (is, none)) worked =
    let done : (fault == no_fault) ≡ true = ap (λ (n : ℕ). n == no_fault) none in
    subst (λ (b : Bool). HasWorked (work ++ (if b then PublishEvent ∷ [] else [])) (lists_of t)) (sym done)
    (publish_keeps work s t worked (λ i. record { book = is.book i; batches = is.batches i }) is.pending is.most)
published_some work s t fault (inr (same, some, why, is, spent)) worked =
    let fails : (fault == no_fault) ≡ false = ap (λ (n : ℕ). n == no_fault) is ∙ publish_is_refused why in
    let kept : HasWorked work (lists_of t) = subst (λ (x : StoreValue). HasWorked work (lists_of x)) (sym same) worked
    in
    subst (λ (b : Bool). HasWorked (work ++ (if b then PublishEvent ∷ [] else [])) (lists_of t)) (sym fails)
    (subst (λ (w : List Event). HasWorked w (lists_of t)) (sym (append-nil work)) kept)

published : (work : List Event) (p q : Option StoreValue) (before after : ℕ)
    → IsPublished (record { publisher = p; fault = before }) (record { publisher = q; fault = after }) → WorkedIn work p
    → WorkedIn (work ++ publish_events after) q
published work p None before after is worked = tt
published work None (Some t) before after is worked = absurd (cc (is.0))
published work (Some s) (Some t) before after is worked = published_some work s t after is worked

-- ---- the other calls

opened_some : (work : List Event) (p : Option StoreValue) (fault : ℕ)
    → IsNewStore (record { publisher = p; fault = fault }) → work ≡ [] → WorkedIn work p
opened_some work None fault is none = tt
opened_some work (Some s) fault (fine, batches, pending) none =
    subst (λ (w : List Event). HasWorked w (lists_of s)) (sym none) (worked_none s batches pending)

-- ---- a trace

-- no event
quiet : (work : List Event) (x : Handle HeldStore) → Worked work x → Worked (work ++ []) x
quiet work x worked = subst (λ (w : List Event). Worked w x) (sym (append-nil work)) worked

same_stores : (k : ℕ) (work : List Event) (before after : ℕ → Handle HeldStore) → after ≡ before
    → Worked work (before k) → Worked (work ++ []) (after k)
same_stores k work before after same worked =
    quiet work (after k) (subst (λ (f : ℕ → Handle HeldStore). Worked work (f k)) (sym same) worked)

work_step : (k : ℕ) (h : Handles) (call : Call) (next : ℕ → Handle HeldStore) (work : List Event)
    → DoesToStores h call next → Worked work (h.stores k) → Worked (work ++ events_in k call) (next k)
work_step k h (OpensStore n fault) next work is worked =
    made_at (λ s. IsNewStore s × HasFault s fault) k n h.stores next (λ b x y. Worked work x → Worked (work ++ []) y) is
    (quiet work (h.stores k))
    (λ v new none. quiet work (Open v) (opened_some work v.publisher v.fault new.0 none)) worked
work_step k h (Loads n domain locale file fault) next work is worked =
    turned_at (LoadsInto domain locale file fault) k n h.stores next
    (λ b x y. Worked work x → Worked (work ++ (if b then load_events domain locale file fault else [])) y) is
    (quiet work (h.stores k))
    (λ v w loads had. subst (λ (f : ℕ). WorkedIn (work ++ load_events domain locale file f) w.publisher)
    (sym (loads.fault_is.fault refl))
    (loaded work domain locale file file.catalogue v.publisher w.publisher v.fault w.fault loads.loaded had)) worked
work_step k h (Publishes n fault) next work is worked =
    turned_at (PublishesIn fault) k n h.stores next
    (λ b x y. Worked work x → Worked (work ++ (if b then publish_events fault else [])) y) is
    (quiet work (h.stores k))
    (λ v w publishes had. subst (λ (f : ℕ). WorkedIn (work ++ publish_events f) w.publisher)
    (sym (publishes.fault_is.fault refl))
    (published work v.publisher w.publisher v.fault w.fault publishes.published had)) worked
work_step k h (Reclaims n) next work is worked =
    turned_at IsReclaimed k n h.stores next (λ b x y. Worked work x → Worked (work ++ []) y) is
    (quiet work (h.stores k))
    (λ v w same had. quiet work (Open w) (subst (λ (x : HeldStore). WorkedIn work x.publisher) (sym same) had)) worked
work_step k h (CountsStore n which number) next work is worked = same_stores k work h.stores next is.1 worked
work_step k h (ClosesStore n) next work is worked =
    closed_at k n h.stores next (λ b x y. Worked work x → Worked (work ++ []) y) is (quiet work (h.stores k))
    (λ v had. quiet work (Closed v) had) worked
work_step k h _ next work is worked = same_stores k work h.stores next is worked

pub work_all : (k : ℕ) (calls : List Call) (h last : Handles) (work : List Event) → IsTrace h calls last
    → Worked work (h.stores k) → Worked (work ++ work_in k calls) (last.stores k)
work_all k [] h last work is worked =
    quiet work (last.stores k) (subst (λ (x : Handles). Worked work (x.stores k)) (sym is) worked)
work_all k (call ∷ calls) h last work (between, step, rest) worked =
    let next : Worked (work ++ events_in k call) (between.stores k) = work_step k h call between.stores work step.stores
    worked in
    subst (λ (w : List Event). Worked w (last.stores k)) (append_assoc work (events_in k call) (work_in k calls))
    (work_all k calls between last (work ++ events_in k call) rest next)
