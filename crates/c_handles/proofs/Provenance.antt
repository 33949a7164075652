-- A reader that was made at an entrance of a store has that store's book.
use Rattle.c_handles.proofs.Common.{◌≡◌, ℕ, List, [], ◌∷◌, sym, ap, ◌∙◌, subst, inl, inr, Option, None, Some}
use Rattle.c_handles.proofs.Common.{MatchOption, ⊤, SeenValue, StoreValue, any_reader_in, HeldSet, Origin, Lent, Left}
use Rattle.c_handles.proofs.Common.{IsEntranceOf, IsReaderFrom, HeldStore, HeldEntrance, Handle, Unused, Open, Closed}
use Rattle.c_handles.proofs.Common.{Handles, Call, MakesEntrance, MakesReader, no_handles, IsOpen, Makes, IsMadeAt}
use Rattle.c_handles.proofs.Common.{IsStep, IsTrace, store_in}
use Rattle.c_handles.specs.OneHistory.{IsAmong, HasBookOf, ReadersStay}
use Rattle.c_handles.proofs.Books.{Keeps, KeepsStore, IsSameStore, KeepsReader, IsSameReader, IsSameEntrance}
use Rattle.c_handles.proofs.Books.{stores_keep, entrances_keep, readers_keep}

-- the handles before and after a call of a trace
record Moment (call : Call) (last : Handles) : Type 0 where
  pub before : Handles
  pub after : Handles
  pub step : IsStep before call after
  pub rest : List Call
  pub ends : IsTrace after rest last
  pub whole : IsTrace before (call ∷ rest) last

moment : (call : Call) (calls : List Call) (h last : Handles) → IsTrace h calls last → IsAmong call calls
    → Moment call last
moment call [] h last is among = absurd among
moment call (other ∷ calls) h last (between, step, rest) (inl same) =
    let here : IsStep h call between = subst (λ (c : Call). IsStep h c between) same step in
    record { before = h; after = between; step = here; rest = calls; ends = rest; whole = (between, here, rest) }
moment call (other ∷ calls) h last (between, step, rest) (inr more) = moment call calls between last rest more

-- ---- the entrance

-- the entrance of a handle that was made, at the end
abbrev pub IsAtEnd : HeldEntrance → Handle HeldEntrance → Type 0
IsAtEnd e Unused = ⊥
IsAtEnd e (Open last) = last ≡ e
IsAtEnd e (Closed last) = last ≡ e

kept_entrance : (x y : Handle HeldEntrance) (P : HeldEntrance → Type 0) → IsOpen P x → Keeps IsSameEntrance x y
    → (e : HeldEntrance) × P e × IsAtEnd e y
kept_entrance (Open e) Unused P is keeps = absurd keeps
kept_entrance (Open e) (Open last) P is keeps = (e, is, keeps)
kept_entrance (Open e) (Closed last) P is keeps = (e, is, keeps)
kept_entrance _ y P is keeps = absurd is

one_entrance : (a b : HeldEntrance) (x : Handle HeldEntrance) → IsAtEnd a x → IsAtEnd b x → a ≡ b
one_entrance a b Unused p q = absurd p
one_entrance a b _ p q = sym p ∙ q

-- an entrance has the store's book, if both could be made
abbrev pub AreOfOneStore : Option SeenValue → Option StoreValue → Type 0
AreOfOneStore e s = MatchOption e ⊤ (λ e. MatchOption s ⊥ (λ s. e.book ≡ s.seen.book))

entrance_book : (e : Option SeenValue) (s : Option StoreValue) (fault : ℕ)
    → IsEntranceOf (record { publisher = s; fault = fault }) (record { entrance = e }) → AreOfOneStore e s
entrance_book None s fault is = tt
entrance_book (Some e) None fault is = absurd is
entrance_book (Some e) (Some s) fault is = ap (λ (x : SeenValue). x.book) is

store_later : (e : Option SeenValue) (s t : Option StoreValue) → AreOfOneStore e s → KeepsStore s t → AreOfOneStore e t
store_later None s t is keeps = tt
store_later (Some e) None t is keeps = absurd is
store_later (Some e) (Some s) None is keeps = absurd keeps
store_later (Some e) (Some s) (Some t) is keeps = is ∙ sym keeps

kept_store : (x y : Handle HeldStore) (P : HeldStore → Type 0) → IsOpen P x → Keeps IsSameStore x y
    → (s : HeldStore) × P s × KeepsStore s.publisher (store_in y)
kept_store (Open s) Unused P is keeps = absurd keeps
kept_store (Open s) (Open last) P is keeps = (s, is, keeps)
kept_store (Open s) (Closed last) P is keeps = (s, is, keeps)
kept_store _ y P is keeps = absurd is

-- ---- the reader

reader_book : (e : Option SeenValue) (s : Option StoreValue) (o : Origin) (f : ℕ)
    → IsReaderFrom (record { entrance = e }) (record { origin = o; fault = f }) → AreOfOneStore e s
    → MatchOption (any_reader_in o) ⊤ (λ r. MatchOption s ⊥ (λ s. r.book ≡ s.seen.book))
reader_book e s (Left r set) f is of = absurd (cc (is.refused))
reader_book None s (Lent r) f is of = absurd is.1
reader_book (Some e) None (Lent r) f is of = absurd of
reader_book (Some e) (Some s) (Lent r) f is of = is.1.0 ∙ of
reader_book e s _ f is of = tt

reader_later : (p q : Option SeenValue) (s : StoreValue) → MatchOption p ⊤ (λ r. r.book ≡ s.seen.book)
    → KeepsReader p q → MatchOption q ⊤ (λ r. r.book ≡ s.seen.book)
reader_later None None s is keeps = tt
reader_later None (Some w) s is keeps = absurd (cc (keeps))
reader_later (Some v) None s is keeps = absurd keeps
reader_later (Some v) (Some w) s is keeps = keeps ∙ is

kept_reader : (s : StoreValue) (x y : Handle HeldSet)
    → IsOpen (λ r. MatchOption (any_reader_in r.origin) ⊤ (λ r. r.book ≡ s.seen.book)) x → Keeps IsSameReader x y
    → HasBookOf s y
kept_reader s (Open a) Unused is keeps = absurd keeps
kept_reader s (Open a) (Open b) is keeps =
    reader_later (any_reader_in a.origin) (any_reader_in b.origin) s is keeps
kept_reader s (Open a) (Closed b) is keeps =
    reader_later (any_reader_in a.origin) (any_reader_in b.origin) s is keeps
kept_reader s _ y is keeps = absurd is

made_open : (P Q : HeldSet → Type 0) (x : Handle HeldSet) → ((r : HeldSet) → P r → Q r) → IsOpen P x → IsOpen Q x
made_open P Q (Open r) gives is = gives r is
made_open P Q _ gives is = absurd is

-- the store's book is that of an entrance that was made
of_store : (store entrance : ℕ) (last : Handles) (m : Moment (MakesEntrance store entrance) last)
    → (e : HeldEntrance) × AreOfOneStore e.entrance (store_in (last.stores store))
    × IsAtEnd e (last.entrances entrance)
of_store store entrance last m =
    let s = kept_store (m.before.stores store) (last.stores store)
    (λ s. Makes (IsEntranceOf s) entrance m.before.entrances m.after.entrances) m.step.entrances
    (stores_keep store (MakesEntrance store entrance ∷ m.rest) m.before last m.whole) in
    let e = kept_entrance (m.after.entrances entrance) (last.entrances entrance) (IsEntranceOf s.0) s.1.made
    (entrances_keep entrance m.rest m.after last m.ends) in (
      e.0,
      store_later e.0.entrance s.0.publisher (store_in (last.stores store))
          (entrance_book e.0.entrance s.0.publisher s.0.fault e.1) s.2,
      e.2,
    )

pub readers_stay : ReadersStay
readers_stay trace h store reader s is opened_as of =
    let first = of_store store of.entrance h
    (moment (MakesEntrance store of.entrance) trace no_handles h is of.to_store) in
    let call : Call = MakesReader of.entrance reader of.told of.version of.fault in
    let m : Moment call h = moment call trace no_handles h is of.made in
    let e = kept_entrance (m.before.entrances of.entrance) (h.entrances of.entrance)
    (λ e. Makes (IsMadeAt e of.told of.version of.fault) reader m.before.readers m.after.readers) m.step.readers
    (entrances_keep of.entrance (call ∷ m.rest) m.before h m.whole) in
    let same : first.0 ≡ e.0 = one_entrance first.0 e.0 (h.entrances of.entrance) first.2 e.2 in
    let book : AreOfOneStore e.0.entrance (Some s) = subst (λ (o : Option StoreValue). AreOfOneStore e.0.entrance o)
    opened_as (subst (λ (x : HeldEntrance). AreOfOneStore x.entrance (store_in (h.stores store))) same first.1) in
    kept_reader s (m.after.readers reader) (h.readers reader)
    (made_open (IsMadeAt e.0 of.told of.version of.fault)
    (λ r. MatchOption (any_reader_in r.origin) ⊤ (λ v. v.book ≡ s.seen.book)) (m.after.readers reader)
    (λ r made. reader_book e.0.entrance (Some s) r.origin r.fault made.made book) e.1.made)
    (readers_keep reader m.rest m.after h m.ends)
