-- A handle keeps the store that it is of, from the call that made it to the end of a trace.
use Rattle.c_handles.proofs.Common.{◌≡◌, ℕ, List, [], ◌∷◌, refl, sym, ap, ◌∙◌, subst, inl, inr, Option, None, Some}
use Rattle.c_handles.proofs.Common.{MatchOption, ⊤, SeenValue, StoreValue, Opened, any_reader_in, HeldSet, Origin, Lent}
use Rattle.c_handles.proofs.Common.{Left, IsLoad, IsLoaded, IsPublished, IsReclaimed, IsEntranceOf, IsEntered}
use Rattle.c_handles.proofs.Common.{IsEnteredAfter, IsLater, IsStillOut, IsBack, HasLeft, IsLeft, HeldStore}
use Rattle.c_handles.proofs.Common.{HeldEntrance, arc_value, Global, Arc, Handle, Unused, Open, Closed, Handles, Call}
use Rattle.c_handles.proofs.Common.{OpensStore, Loads, Publishes, Reclaims, CountsStore, ClosesStore, MakesEntrance}
use Rattle.c_handles.proofs.Common.{ClosesEntrance, MakesReader, EntersAfter, Leaves, Looks, LooksAt, CountsReader}
use Rattle.c_handles.proofs.Common.{ClosesReader, AgreesWith, Makes, Turns, Closes, LoadsInto, PublishesIn, IsMadeAt}
use Rattle.c_handles.proofs.Common.{EntersIn, EntersAfterIn, DoesToStores, DoesToEntrances, DoesToReaders, IsTrace}
use Rattle.mo_image.specs.Entry.{Entry}
use Rattle.c_handles.specs.Calls.{Enters}
use Rattle.c_handles.proofs.Slots.{opened_with, made_at, turned_at, closed_at}

-- ---- the value of a handle stays related to what it was

-- the handle had a value, which this relates to that one
abbrev pub Keeps : {V : Type 0} → (V → V → Type 0) → Handle V → Handle V → Type 0
Keeps Is (Open v) (Open w) = Is v w
Keeps Is (Open v) (Closed w) = Is v w
Keeps Is (Closed v) (Closed w) = Is v w
Keeps Is Unused y = ⊤
Keeps Is x y = ⊥

stay_keeps : {V : Type 0} (Is : V → V → Type 0) → ((v : V) → Is v v) → (x : Handle V) → Keeps Is x x
stay_keeps Is same Unused = tt
stay_keeps Is same (Open v) = same v
stay_keeps Is same (Closed v) = same v

keeps_on : {V : Type 0} (Is : V → V → Type 0) → ((u v w : V) → Is u v → Is v w → Is u w) → (x y z : Handle V)
    → Keeps Is x y → Keeps Is y z → Keeps Is x z
keeps_on Is on Unused y z a b = tt
keeps_on Is on (Open u) (Open v) (Open w) a b = on u v w a b
keeps_on Is on (Open u) (Open v) (Closed w) a b = on u v w a b
keeps_on Is on (Open u) (Closed v) (Closed w) a b = on u v w a b
keeps_on Is on (Closed u) (Closed v) (Closed w) a b = on u v w a b
keeps_on Is on _ _ _ a b = absurd (search)

-- handle k, by what happened to handle n
made_keeps : {V : Type 0} (Is : V → V → Type 0) → ((v : V) → Is v v) → {New : V → Type 0} (k n : ℕ)
    (before after : ℕ → Handle V) → Makes New n before after → Keeps Is (before k) (after k)
made_keeps Is same {New} k n before after is =
    made_at New k n before after (λ b x y. Keeps Is x y) is (stay_keeps Is same (before k)) (λ v new. tt)

turned_keeps : {V : Type 0} (Is Turn : V → V → Type 0) → ((v : V) → Is v v) → ((v w : V) → Turn v w → Is v w)
    → (k n : ℕ) (before after : ℕ → Handle V) → Turns Turn n before after → Keeps Is (before k) (after k)
turned_keeps Is Turn same gives k n before after is =
    turned_at Turn k n before after (λ b x y. Keeps Is x y) is (stay_keeps Is same (before k)) gives

closed_keeps : {V : Type 0} (Is : V → V → Type 0) → ((v : V) → Is v v) → (k n : ℕ) (before after : ℕ → Handle V)
    → Closes n before after → Keeps Is (before k) (after k)
closed_keeps Is same k n before after is =
    closed_at k n before after (λ b x y. Keeps Is x y) is (stay_keeps Is same (before k)) same

none_keeps : {V : Type 0} (Is : V → V → Type 0) → ((v : V) → Is v v) → (k : ℕ) (before after : ℕ → Handle V)
    → after ≡ before → Keeps Is (before k) (after k)
none_keeps {V} Is same k before after is =
    subst (λ (f : ℕ → Handle V). Keeps Is (before k) (f k)) (sym is) (stay_keeps Is same (before k))

-- ---- stores

-- a store that was opened keeps its book
abbrev pub KeepsStore : Option StoreValue → Option StoreValue → Type 0
KeepsStore p q = MatchOption p ⊤ (λ s. MatchOption q ⊥ (λ t. t.seen.book ≡ s.seen.book))

abbrev pub IsSameStore : HeldStore → HeldStore → Type 0
IsSameStore a b = KeepsStore a.publisher b.publisher

same_store : (p : Option StoreValue) → KeepsStore p p
same_store None = tt
same_store (Some s) = refl

store_on : (p q r : Option StoreValue) → KeepsStore p q → KeepsStore q r → KeepsStore p r
store_on None q r a b = tt
store_on (Some s) (Some t) (Some u) a b = b ∙ a
store_on _ _ _ a b = absurd (search)

load_book : (s t : StoreValue) (domain locale : List ℕ) (map : List Entry) (fault : ℕ)
    → IsLoad s domain locale map t fault → t.seen.book ≡ s.seen.book
load_book s t domain locale map fault (inl (adds, none)) = ap (λ (x : StoreValue). x.seen.book) adds.after_is
load_book s t domain locale map fault (inr (same, why, refused, is)) = ap (λ (x : StoreValue). x.seen.book) same

loaded_book : (domain locale : List ℕ) (file : Opened) (catalogue : Option (Arc (List Entry) Global))
    (p q : Option StoreValue) (before after : ℕ)
    → IsLoaded (record { publisher = p; fault = before }) domain locale (record file { catalogue = catalogue })
    (record { publisher = q; fault = after }) → KeepsStore p q
loaded_book domain locale file catalogue None q before after is = tt
loaded_book domain locale file catalogue (Some s) None before after is = absurd is
loaded_book domain locale file None (Some s) (Some t) before after is =
    ap (λ (x : StoreValue). x.seen.book) is.0
loaded_book domain locale file (Some shared) (Some s) (Some t) before after is =
    load_book s t domain locale (arc_value shared) after is

published_book : (p q : Option StoreValue) (before after : ℕ)
    → IsPublished (record { publisher = p; fault = before }) (record { publisher = q; fault = after })
    → KeepsStore p q
published_book None q before after is = tt
published_book (Some s) None before after is = absurd is
published_book (Some s) (Some t) before after (inl (is, none)) = is.book
published_book (Some s) (Some t) before after (inr (same, some, why, is, spent)) =
    ap (λ (x : StoreValue). x.seen.book) same

store_step : (k : ℕ) (h : Handles) (call : Call) (next : ℕ → Handle HeldStore) → DoesToStores h call next
    → Keeps IsSameStore (h.stores k) (next k)
store_step k h (OpensStore n fault) next is =
    made_keeps IsSameStore (λ v. same_store v.publisher) k n h.stores next is
store_step k h (Loads n domain locale file fault) next is =
    turned_keeps IsSameStore (LoadsInto domain locale file fault) (λ v. same_store v.publisher)
    (λ v w loads. loaded_book domain locale file file.catalogue v.publisher w.publisher v.fault w.fault loads.loaded)
    k n h.stores next is
store_step k h (Publishes n fault) next is =
    turned_keeps IsSameStore (PublishesIn fault) (λ v. same_store v.publisher)
    (λ v w publishes. published_book v.publisher w.publisher v.fault w.fault publishes.published) k n h.stores next is
store_step k h (Reclaims n) next is =
    turned_keeps IsSameStore IsReclaimed (λ v. same_store v.publisher)
    (λ v w same. subst (λ (x : HeldStore). IsSameStore v x) (sym same) (same_store v.publisher)) k n h.stores next is
store_step k h (CountsStore n which number) next is =
    none_keeps IsSameStore (λ v. same_store v.publisher) k h.stores next is.1
store_step k h (ClosesStore n) next is = closed_keeps IsSameStore (λ v. same_store v.publisher) k n h.stores next is
store_step k h _ next is = none_keeps IsSameStore (λ v. same_store v.publisher) k h.stores next is

pub stores_keep : (k : ℕ) (calls : List Call) (h last : Handles) → IsTrace h calls last
    → Keeps IsSameStore (h.stores k) (last.stores k)
stores_keep k [] h last is = subst (λ (x : Handles). Keeps IsSameStore (h.stores k) (x.stores k)) (sym is)
    (stay_keeps IsSameStore (λ v. same_store v.publisher) (h.stores k))
stores_keep k (call ∷ calls) h last (between, step, rest) =
    keeps_on IsSameStore (λ u v w a b. store_on u.publisher v.publisher w.publisher a b) (h.stores k)
    (between.stores k) (last.stores k) (store_step k h call between.stores step.stores)
    (stores_keep k calls between last rest)

-- ---- entrances

abbrev pub IsSameEntrance : HeldEntrance → HeldEntrance → Type 0
IsSameEntrance a b = b ≡ a

entrance_step : (k : ℕ) (h : Handles) (call : Call) (next : ℕ → Handle HeldEntrance) → DoesToEntrances h call next
    → Keeps IsSameEntrance (h.entrances k) (next k)
entrance_step k h (MakesEntrance n entrance) next is =
    let s = opened_with (λ s. Makes (IsEntranceOf s) entrance h.entrances next) (h.stores n) is in
    made_keeps IsSameEntrance (λ v. refl) k entrance h.entrances next s.1
entrance_step k h (ClosesEntrance entrance) next is =
    closed_keeps IsSameEntrance (λ v. refl) k entrance h.entrances next is
entrance_step k h _ next is = none_keeps IsSameEntrance (λ v. refl) k h.entrances next is

pub entrances_keep : (k : ℕ) (calls : List Call) (h last : Handles) → IsTrace h calls last
    → Keeps IsSameEntrance (h.entrances k) (last.entrances k)
entrances_keep k [] h last is = subst (λ (x : Handles). Keeps IsSameEntrance (h.entrances k) (x.entrances k)) (sym is)
    (stay_keeps IsSameEntrance (λ v. refl) (h.entrances k))
entrances_keep k (call ∷ calls) h last (between, step, rest) =
    keeps_on IsSameEntrance (λ u v w a b. b ∙ a) (h.entrances k) (between.entrances k) (last.entrances k)
    (entrance_step k h call between.entrances step.entrances) (entrances_keep k calls between last rest)

-- ---- readers

-- a reader keeps its book, and there is none where there was none
abbrev pub KeepsReader : Option SeenValue → Option SeenValue → Type 0
KeepsReader p q = MatchOption p (q ≡ None) (λ v. MatchOption q ⊥ (λ w. w.book ≡ v.book))

abbrev pub IsSameReader : HeldSet → HeldSet → Type 0
IsSameReader a b = KeepsReader (any_reader_in a.origin) (any_reader_in b.origin)

same_reader : (p : Option SeenValue) → KeepsReader p p
same_reader None = refl
same_reader (Some v) = refl

reader_on : (p q r : Option SeenValue) → KeepsReader p q → KeepsReader q r → KeepsReader p r
reader_on None None r a b = b
reader_on None (Some v) r a b = absurd (cc (a))
reader_on (Some u) None r a b = absurd a
reader_on (Some u) (Some v) None a b = absurd b
reader_on (Some u) (Some v) (Some w) a b = b ∙ a

unchanged : (o : Origin) (f : ℕ) (new : HeldSet) → new ≡ record { origin = o; fault = f }
    → KeepsReader (any_reader_in o) (any_reader_in new.origin)
unchanged o f new same =
    subst (λ (x : HeldSet). KeepsReader (any_reader_in o) (any_reader_in x.origin)) (sym same)
    (same_reader (any_reader_in o))

later_book : (r : SeenValue) (o : Origin) (f : ℕ) → IsLater r (record { origin = o; fault = f })
    → KeepsReader (Some r) (any_reader_in o)
later_book r (Lent r') f is = is.0
later_book r _ f is = absurd is

out_book : (r : SeenValue) (o : Origin) (f : ℕ) → IsStillOut r (record { origin = o; fault = f })
    → KeepsReader (Some r) (any_reader_in o)
out_book r (Left r' set) f is = is.0
out_book r _ f is = absurd is

back_book : (r : SeenValue) (new : HeldSet) → IsBack r new → KeepsReader (Some r) (any_reader_in new.origin)
back_book r new (inl (later, none)) = later_book r new.origin new.fault later
back_book r new (inr (out, busy)) = out_book r new.origin new.fault out

entered_book : (o : Origin) (f : ℕ) (new : HeldSet) → IsEntered (record { origin = o; fault = f }) new
    → KeepsReader (any_reader_in o) (any_reader_in new.origin)
entered_book (Lent r) f new (later, none) = later_book r new.origin new.fault later
entered_book (Left r set) f new is = back_book r new is
entered_book o f new is = unchanged o f new is

after_book : (o : Origin) (f : ℕ) (notice : Option SeenValue) (new : HeldSet)
    → IsEnteredAfter (record { origin = o; fault = f }) (record { notice = notice }) new
    → KeepsReader (any_reader_in o) (any_reader_in new.origin)
after_book (Lent r) f notice new (later, is) = later_book r new.origin new.fault later
after_book (Left r set) f None new is = back_book r new is
after_book (Left r set) f (Some n) new is = back_book r new is.0
after_book o f notice new is = unchanged o f new is

left_book : (r : SeenValue) (o : Origin) → HasLeft r o → KeepsReader (Some r) (any_reader_in o)
left_book r (Left r' set) is = ap (λ (x : SeenValue). x.book) is.0
left_book r _ is = absurd is

leaves_book : (o : Origin) (f : ℕ) (new : HeldSet) → IsLeft (record { origin = o; fault = f }) new
    → KeepsReader (any_reader_in o) (any_reader_in new.origin)
leaves_book (Lent r) f new is = left_book r new.origin is.0
leaves_book (Left r set) f new is = left_book r new.origin is.0
leaves_book o f new is = unchanged o f new is

reader_step : (k : ℕ) (h : Handles) (call : Call) (next : ℕ → Handle HeldSet) → DoesToReaders h call next
    → Keeps IsSameReader (h.readers k) (next k)
reader_step k h (MakesReader entrance n told version fault) next is =
    let e = opened_with (λ e. Makes (IsMadeAt e told version fault) n h.readers next) (h.entrances entrance) is in
    made_keeps IsSameReader (λ v. same_reader (any_reader_in v.origin)) k n h.readers next e.1
reader_step k h (Enters n version fault) next is =
    turned_keeps IsSameReader (EntersIn version fault) (λ v. same_reader (any_reader_in v.origin))
    (λ v w enters. entered_book v.origin v.fault w enters.entered) k n h.readers next is
reader_step k h (EntersAfter n notice told version fault) next is =
    let m = opened_with (λ m. Turns (EntersAfterIn m told version fault) n h.readers next) (h.notices notice) is in
    turned_keeps IsSameReader (EntersAfterIn m.0 told version fault) (λ v. same_reader (any_reader_in v.origin))
    (λ v w enters. after_book v.origin v.fault m.0.notice w enters.entered) k n h.readers next m.1
reader_step k h (Leaves n) next is =
    turned_keeps IsSameReader IsLeft (λ v. same_reader (any_reader_in v.origin))
    (λ v w leaves. leaves_book v.origin v.fault w leaves) k n h.readers next is
reader_step k h (Looks n domain languages question text) next is =
    none_keeps IsSameReader (λ v. same_reader (any_reader_in v.origin)) k h.readers next is.1
reader_step k h (LooksAt n domain languages places question text) next is =
    none_keeps IsSameReader (λ v. same_reader (any_reader_in v.origin)) k h.readers next is.1
reader_step k h (CountsReader n which number) next is =
    none_keeps IsSameReader (λ v. same_reader (any_reader_in v.origin)) k h.readers next is.1
reader_step k h (ClosesReader n) next is =
    closed_keeps IsSameReader (λ v. same_reader (any_reader_in v.origin)) k n h.readers next is
reader_step k h (AgreesWith store n) next is =
    none_keeps IsSameReader (λ v. same_reader (any_reader_in v.origin)) k h.readers next is.1
reader_step k h _ next is = none_keeps IsSameReader (λ v. same_reader (any_reader_in v.origin)) k h.readers next is

pub readers_keep : (k : ℕ) (calls : List Call) (h last : Handles) → IsTrace h calls last
    → Keeps IsSameReader (h.readers k) (last.readers k)
readers_keep k [] h last is = subst (λ (x : Handles). Keeps IsSameReader (h.readers k) (x.readers k)) (sym is)
    (stay_keeps IsSameReader (λ v. same_reader (any_reader_in v.origin)) (h.readers k))
readers_keep k (call ∷ calls) h last (between, step, rest) =
    keeps_on IsSameReader
    (λ u v w a b. reader_on (any_reader_in u.origin) (any_reader_in v.origin) (any_reader_in w.origin) a b)
    (h.readers k) (between.readers k) (last.readers k) (reader_step k h call between.readers step.readers)
    (readers_keep k calls between last rest)
