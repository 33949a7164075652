-- The law of handles: the work of a store and the acts of its readers are put into one history.
use Rattle.c_handles.proofs.Common.{Option, None, Some, MatchOption, ◌≡◌, ℕ, zero, suc, List, [], ◌∷◌, ◌++◌, map, refl}
use Rattle.c_handles.proofs.Common.{sym, ap, ◌∙◌, subst, ⊤, LoadValue, StartsWith, SeenValue, StoreValue, begins_nil}
use Rattle.c_handles.proofs.Common.{begins_trans, Event, new_store, memory_fault, any_reader_in, HeldSet, Handle}
use Rattle.c_handles.proofs.Common.{Unused}
use Rattle.c_handles.proofs.Common.{Open, Closed, Handles, Call, AgreesWith, no_handles, IsOpen, IsStep, AgreesIn}
use Rattle.c_handles.proofs.Common.{IsTrace, store_in, view_in, HeldStore, ReaderAct, work_in, acts_in, IsStepOf}
use Rattle.std.specs.List.{AllZip, AllByRecursion}
use Rattle.life.specs.Acts.{Act}
use Rattle.life.specs.Reached.{lists_of, HasWorked, HasActed, Reached}
use Rattle.life.specs.Life.{steps_of, IsLifeOf, IsStepOf as IsLifeStep, acts_of as life_acts}
use Rattle.life.proofs.OneLife.{one_life}
use Rattle.c_handles.specs.OneHistory.{IsReaderOf, HasBookOf, IsHistoryOf, agreements, acts_of, ReadersGoOn}
use Rattle.c_handles.specs.OneHistory.{HandlesHaveOneHistory}
use Rattle.c_handles.proofs.Provenance.{readers_stay}
use Rattle.c_handles.proofs.Work.{WorkedIn, Worked, work_all}
use Rattle.c_handles.proofs.Entries.{ReaderLeadsAll, plain, plain_leads_all, goes_on}
use Rattle.c_handles.proofs.ReaderActs.{HasSeen, Leads, acts_lead}
use Rattle.c_handles.proofs.Texts.{AreWithin, with_texts, all_within}

worked_in : (work : List Event) (x : Handle HeldStore) → Worked work x → WorkedIn work (store_in x)
worked_in work Unused worked = tt
worked_in work _ worked = worked

-- what these readers have seen, if they have the store's book, is a beginning of what is published
abbrev AreOfOneBook : StoreValue → Handles → List ℕ → Type 0
AreOfOneBook s h readers = AllByRecursion (λ reader. MatchOption (view_in (h.readers reader)) ⊤
    (λ view. view.book ≡ s.seen.book → StartsWith s.seen.batches view.batches)) readers

-- ---- a reader of the store

behind : (s : StoreValue) (b : List (List LoadValue)) (view : Option SeenValue) (fault : ℕ)
    → MatchOption view ⊤ (λ v. v.book ≡ s.seen.book)
    → MatchOption view ⊤ (λ v. v.book ≡ s.seen.book → StartsWith s.seen.batches v.batches)
    → MatchOption view ((fault ≡ memory_fault) × (b ≡ [])) (λ v. StartsWith v.batches b) → StartsWith s.seen.batches b
behind s b None fault mine agrees seen =
    subst (λ (l : List (List LoadValue)). StartsWith s.seen.batches l) (sym seen.1) (begins_nil s.seen.batches)
behind s b (Some v) fault mine agrees seen = begins_trans s.seen.batches v.batches b (agrees mine) seen

settled : (s : StoreValue) (b : List (List LoadValue)) (x : Handle HeldSet) → HasBookOf s x
    → MatchOption (view_in x) ⊤ (λ v. v.book ≡ s.seen.book → StartsWith s.seen.batches v.batches) → HasSeen b x
    → StartsWith s.seen.batches b
settled s b Unused mine agrees seen =
    subst (λ (l : List (List LoadValue)). StartsWith s.seen.batches l) (sym seen) (begins_nil s.seen.batches)
settled s b (Open held) mine agrees seen = behind s b (any_reader_in held.origin) held.fault mine agrees seen
settled s b (Closed held) mine agrees seen = behind s b (any_reader_in held.origin) held.fault mine agrees seen

-- ---- all readers

-- the acts of a reader lead to a beginning of what is published
record Acted (s : StoreValue) (acts : List ReaderAct) : Type 0 where
  pub seen : List (List LoadValue)
  pub leads : ReaderLeadsAll [] acts seen
  pub behind : StartsWith s.seen.batches seen

acted : (s : StoreValue) (trace : List Call) (h : Handles) (reader : ℕ) → IsTrace no_handles trace h
    → HasBookOf s (h.readers reader) → AreOfOneBook s h (reader ∷ []) → Acted s (acts_in reader trace)
acted s trace h reader is mine agrees =
    let all : Leads [] (acts_in reader trace) (h.readers reader) = acts_lead [] reader trace no_handles h is refl in
    record { seen = all.0; leads = all.1; behind = settled s all.0 (h.readers reader) mine agrees.0 all.2 }

record AllActed (s : StoreValue) (trace : List Call) (readers : List ℕ) : Type 0 where
  pub seen : List (List (List LoadValue))
  pub acted : AllZip HasActed (map (λ reader. map plain (acts_in reader trace)) readers) seen
  pub behind : AllByRecursion (StartsWith s.seen.batches) seen
  pub each : (place : ℕ) → Acted s (acts_of trace readers place)
  pub plain_acts : (place : ℕ) → life_acts (map (λ reader. map plain (acts_in reader trace)) readers) place
      ≡ map plain (acts_of trace readers place)

all_acted : (s : StoreValue) (trace : List Call) (h : Handles) (readers : List ℕ) → IsTrace no_handles trace h
    → AllByRecursion (λ reader. HasBookOf s (h.readers reader)) readers → AreOfOneBook s h readers
    → AllActed s trace readers
all_acted s trace h [] is mine agrees = record {
  seen = [];
  acted = tt;
  behind = tt;
  each = λ place. record { seen = []; leads = refl; behind = begins_nil s.seen.batches };
  plain_acts = λ place. refl;
}
all_acted s trace h (r ∷ rs) is mine agrees =
    let one : Acted s (acts_in r trace) = acted s trace h r is mine.0 (agrees.0, tt) in
    let rest : AllActed s trace rs = all_acted s trace h rs is mine.1 agrees.1 in
    record {
      seen = one.seen ∷ rest.seen;
      acted = (plain_leads_all [] (acts_in r trace) one.seen one.leads, rest.acted);
      behind = (one.behind, rest.behind);
      each = at one rest;
      plain_acts = same rest;
    } where
      at : Acted s (acts_in r trace) → AllActed s trace rs → (place : ℕ) → Acted s (acts_of trace (r ∷ rs) place)
      at one rest zero = one
      at one rest (suc place) = rest.each place

      same : AllActed s trace rs → (place : ℕ)
          → life_acts (map (λ reader. map plain (acts_in reader trace)) (r ∷ rs)) place
          ≡ map plain (acts_of trace (r ∷ rs) place)
      same rest zero = refl
      same rest (suc place) = rest.plain_acts place

all_stay : (trace : List Call) (h : Handles) (store : ℕ) (s : StoreValue) (readers : List ℕ)
    → IsTrace no_handles trace h → store_in (h.stores store) ≡ Some s → AllByRecursion (IsReaderOf store trace) readers
    → AllByRecursion (λ reader. HasBookOf s (h.readers reader)) readers
all_stay trace h store s [] is opened_as of = tt
all_stay trace h store s (r ∷ rs) is opened_as of =
    (readers_stay trace h store r s is opened_as of.0, all_stay trace h store s rs is opened_as of.1)

pub readers_go_on : ReadersGoOn
readers_go_on trace h reader is =
    let all : Leads [] (acts_in reader trace) (h.readers reader) = acts_lead [] reader trace no_handles h is refl in
    goes_on 0 [] (acts_in reader trace) all.0 refl all.1

-- ---- the store and its readers at hand

-- a trace of two parts
record Parts (h : Handles) (first rest : List Call) (last : Handles) : Type 0 where
  pub between : Handles
  pub one : IsTrace h first between
  pub two : IsTrace between rest last

split : (first rest : List Call) (h last : Handles) → IsTrace h (first ++ rest) last → Parts h first rest last
split [] rest h last is = record { between = h; one = refl; two = is }
split (call ∷ calls) rest h last (next, step, is) =
    let more : Parts next calls rest last = split calls rest next last is in
    record { between = more.between; one = (next, step, more.one); two = more.two }

unmoved : (h after : Handles) (store reader : ℕ) → IsStep h (AgreesWith store reader) after → after ≡ h
unmoved h after store reader step = λ i. record {
  stores = step.stores i;
  notices = step.notices i;
  entrances = step.entrances i;
  readers = step.readers.1 i;
}

all_unmoved : (store : ℕ) (readers : List ℕ) (h last : Handles) → IsTrace h (agreements store readers) last → last ≡ h
all_unmoved store [] h last is = is
all_unmoved store (r ∷ rs) h last (next, step, rest) = all_unmoved store rs next last rest ∙ unmoved h next store r step

agreed_view : (s : StoreValue) (view : Option SeenValue)
    → (MatchOption view ⊤ (λ v. v.book ≡ s.seen.book)
    → MatchOption view ⊤ (λ v. StartsWith s.seen.batches v.batches))
    → MatchOption view ⊤ (λ v. v.book ≡ s.seen.book → StartsWith s.seen.batches v.batches)
agreed_view s None agrees = tt
agreed_view s (Some v) agrees = agrees

agreed_with : (s : StoreValue) (x : Handle HeldStore) (y : Handle HeldSet) → store_in x ≡ Some s
    → IsOpen (λ store. IsOpen (AgreesIn store) y) x
    → MatchOption (view_in y) ⊤ (λ v. v.book ≡ s.seen.book → StartsWith s.seen.batches v.batches)
agreed_with s (Open held) (Open r) is agrees =
    agreed_view s (any_reader_in r.origin) (subst (λ (p : Option StoreValue).
    MatchOption p ⊤ (λ s. MatchOption (any_reader_in r.origin) ⊤ (λ v. v.book ≡ s.seen.book))
    → MatchOption p ⊤ (λ s. MatchOption (any_reader_in r.origin) ⊤ (λ v. StartsWith s.seen.batches v.batches))) is
    agrees)
agreed_with s _ _ is agrees = absurd agrees

all_agreed : (s : StoreValue) (store : ℕ) (readers : List ℕ) (h last : Handles) → store_in (h.stores store) ≡ Some s
    → IsTrace h (agreements store readers) last → AreOfOneBook s h readers
all_agreed s store [] h last opened_as is = tt
all_agreed s store (r ∷ rs) h last opened_as (next, step, rest) = (
  agreed_with s (h.stores store) (h.readers r) opened_as step.readers.0,
  all_agreed s store rs h last opened_as
      (subst (λ (x : Handles). IsTrace x (agreements store rs) last) (unmoved h next store r step) rest),
)

-- ---- the law

at_rest : (trace : List Call) (h : Handles) (store : ℕ) (s : StoreValue) (readers : List ℕ)
    → IsTrace no_handles trace h → store_in (h.stores store) ≡ Some s
    → AllByRecursion (IsReaderOf store trace) readers → AreOfOneBook s h readers
    → (history : List Event) × IsHistoryOf s store trace readers history
at_rest trace h store s readers is opened_as of agrees =
    let all : AllActed s trace readers = all_acted s trace h readers is
    (all_stay trace h store s readers is opened_as of) agrees in
    let worked : HasWorked (work_in store trace) (lists_of s) = subst (λ (o : Option StoreValue).
    WorkedIn (work_in store trace) o) opened_as
    (worked_in (work_in store trace) (h.stores store) (work_all store trace no_handles h [] is refl)) in
    let reached : Reached (lists_of s) all.seen (work_in store trace)
    (map (λ reader. map plain (acts_in reader trace)) readers) = record { worked = worked; acted = all.acted } in
    let life = one_life (lists_of s) all.seen (work_in store trace)
    (map (λ reader. map plain (acts_in reader trace)) readers) reached all.behind in (
      life.0,
      record {
        legal = life.1.legal;
        batches = life.1.batches;
        pending = life.1.pending;
        work_is = life.1.work_is;
        steps = λ place. steps all life.0 life.1 place;
      },
    ) where
      steps : (all : AllActed s trace readers) (history : List Event)
          → IsLifeOf (lists_of s) all.seen (work_in store trace)
          (map (λ reader. map plain (acts_in reader trace)) readers) history
          → (place : ℕ) → AllZip IsStepOf (acts_of trace readers place) (steps_of place new_store history)
      steps all history life place =
          let one : Acted s (acts_of trace readers place) = all.each place in
          let within = subst (λ (l : List (List LoadValue)). AreWithin l
          (steps_of place new_store history)) life.batches (all_within place new_store history) in
          with_texts s.seen.batches [] (acts_of trace readers place) one.seen (steps_of place new_store history)
          one.leads
          one.behind within
          (subst (λ (l : List Act). AllZip IsLifeStep l (steps_of place new_store history)) (all.plain_acts place)
          (life.steps place))

pub handles_have_one_history : HandlesHaveOneHistory
handles_have_one_history trace h store s readers is opened_as of =
    let parts : Parts no_handles trace (agreements store readers) h =
    split trace (agreements store readers) no_handles h is in
    let same : h ≡ parts.between = all_unmoved store readers parts.between h parts.two in
    let now : store_in (parts.between.stores store) ≡ Some s =
    ap (λ (x : Handles). store_in (x.stores store)) (sym same) ∙ opened_as in
    at_rest trace parts.between store s readers parts.one now of
    (all_agreed s store readers parts.between h now parts.two)
