-- Each call adds to what its publisher or its reader has done.
use Rattle.life.proofs.Common.{All, AllZip, ◌≡◌, ◌⊎◌, ℕ, suc, ◌+◌, ◌<◌, List, [], ◌∷◌, ◌++◌, map, length, refl, sym, ap}
use Rattle.life.proofs.Common.{◌∙◌, subst, arith, append_assoc, inl, inr, ⊎_elim, LoadValue, version_of, StartsWith}
use Rattle.life.proofs.Common.{after_publish, SeenValue, StoreValue, Event, State, Accept, Refuse, Enter, Learn}
use Rattle.life.proofs.Common.{new_store}
use Rattle.life.proofs.Common.{after, state_of, MayFollow, IsLegal, begins_refl, May, Runs, runs_legal, AreBelow}
use Rattle.life.proofs.Common.{runs_append, state_append, Act, Enters, Learns, IsEntry, IsLearning, Leads, LeadsAll}
use Rattle.life.proofs.Common.{NoneIsReaders, StoreLists, lists_of, HasWorked, HasActed}
use Rattle.live_versions.specs.History.{Publish}
use Rattle.life.specs.Laws.{OpenReaches, LoadKeeps, LoadMoKeeps, RefusalKeeps, PublishKeeps, EnterKeeps, AskKeeps}
use Rattle.life.specs.Laws.{AskFaultKeeps, LearnKeeps, SettleKeeps}

-- ---- a reader

pub leads_snoc : (a : List (List LoadValue)) (acts : List Act) (b c : List (List LoadValue)) (act : Act)
    → LeadsAll a acts b → Leads b act c → LeadsAll a (acts ++ act ∷ []) c
leads_snoc a [] b c act all one = (c, subst (λ (x : List (List LoadValue)). Leads x act c) all one, refl)
leads_snoc a (x ∷ xs) b c act (next, here, rest) one = (next, here, leads_snoc next xs b c act rest one)

pub leads_append : (a : List (List LoadValue)) (xs : List Act) (b : List (List LoadValue)) (ys : List Act)
    (c : List (List LoadValue)) → LeadsAll a xs b → LeadsAll b ys c → LeadsAll a (xs ++ ys) c
leads_append a [] b ys c is more = subst (λ (x : List (List LoadValue)). LeadsAll x ys c) is more
leads_append a (x ∷ xs) b ys c (next, here, rest) more = (next, here, leads_append next xs b ys c rest more)

pub enter_keeps : EnterKeeps
enter_keeps acts old entry new version looked acted later is texts same =
    let one : IsEntry old.batches version looked entry.batches =
    record { later = later; version_is = is; texts = texts } in
    subst (λ (x : SeenValue). HasActed (acts ++ Enters version looked ∷ []) x.batches) (sym same)
    (leads_snoc [] acts old.batches entry.batches (Enters version looked) acted one)

pub ask_keeps : AskKeeps
ask_keeps acts old new version query text acted answer later =
    let looked = record { query = query; text = text } ∷ [] in
    let one : IsEntry old.batches version looked new.batches =
    record { later = later; version_is = answer.0; texts = (answer.1, tt) } in
    leads_snoc [] acts old.batches new.batches (Enters version looked) acted one

pub ask_fault_keeps : AskFaultKeeps
ask_fault_keeps acts old new acted later =
    let one : IsEntry old.batches (version_of new.batches) [] new.batches =
    record { later = later; version_is = refl; texts = tt } in
    leads_snoc [] acts old.batches new.batches (Enters (version_of new.batches) []) acted one

same_batches : (new old notice : SeenValue) → (new ≡ old) ⊎ (new ≡ notice)
    → (new.batches ≡ old.batches) ⊎ (new.batches ≡ notice.batches)
same_batches new old notice (inl is) = inl (ap (λ (x : SeenValue). x.batches) is)
same_batches new old notice (inr is) = inr (ap (λ (x : SeenValue). x.batches) is)

pub learns : (old new notice : SeenValue) → StartsWith new.batches old.batches × StartsWith new.batches notice.batches
    → (new ≡ old) ⊎ (new ≡ notice) → IsLearning old.batches (version_of notice.batches) new.batches
learns old new notice longer one = record {
  notice = notice.batches;
  version_is = refl;
  later = longer.0;
  told = longer.1;
  one = same_batches new old notice one;
}

-- a notice shows nothing new
pub learns_nothing : (seen notice : List (List LoadValue)) → StartsWith seen notice
    → IsLearning seen (version_of notice) seen
learns_nothing seen notice longer =
    record { notice = notice; version_is = refl; later = begins_refl seen; told = longer; one = inl refl }

-- a notice shows all that was seen, and perhaps more
pub learns_all : (seen notice : List (List LoadValue)) → StartsWith notice seen
    → IsLearning seen (version_of notice) notice
learns_all seen notice longer =
    record { notice = notice; version_is = refl; later = longer; told = begins_refl notice; one = inr refl }

-- of two beginnings of one list one begins the other
pub either_begins : (z a b : List (List LoadValue)) → StartsWith z a → StartsWith z b
    → StartsWith a b ⊎ StartsWith b a
either_begins z [] b p q = inr (b, refl)
either_begins z (x ∷ a) [] p q = inl (x ∷ a, refl)
either_begins [] (x ∷ a) (y ∷ b) p q = absurd (cc (p.1))
either_begins (w ∷ z) (x ∷ a) (y ∷ b) p q =
    let heads : x ≡ y = cc (p.1, q.1) in
    ⊎_elim (λ (r : StartsWith a b). inl (r.0, cc (heads, r.1))) (λ (r : StartsWith b a). inr (r.0, cc (heads, r.1)))
    (either_begins z a b (p.0, cc (p.1)) (q.0, cc (q.1)))

pub learn_keeps : LearnKeeps
learn_keeps acts old new notice acted longer one =
    leads_snoc [] acts old.batches new.batches (Learns (version_of notice.batches)) acted
    (learns old new notice longer one)

pub settle_keeps : SettleKeeps
settle_keeps acts old new notice version acted (is, later, same) =
    let act : IsLearning old.batches version notice.batches = record {
      notice = notice.batches;
      version_is = is;
      later = later;
      told = begins_refl notice.batches;
      one = inr refl;
    } in
    let kept : HasActed (acts ++ Learns version ∷ []) notice.batches =
    leads_snoc [] acts old.batches notice.batches (Learns version) acted act in (
      subst (λ (x : SeenValue). HasActed (acts ++ Learns version ∷ []) x.batches) (sym same) kept,
      subst (λ (x : SeenValue). StartsWith notice.batches x.batches) (sym same) (begins_refl notice.batches),
    )

-- ---- the publisher

pub own_below : (events : List Event) → NoneIsReaders events → AreBelow 0 events
own_below [] own = tt
own_below (Accept load ∷ events) own = (tt, own_below events own)
own_below (Refuse ∷ events) own = (tt, own_below events own)
own_below (Publish ∷ events) own = (tt, own_below events own)
own_below _ own = absurd own

own_append : (a b : List Event) → NoneIsReaders a → NoneIsReaders b → NoneIsReaders (a ++ b)
own_append [] b p q = q
own_append (Accept load ∷ a) b p q = own_append a b p q
own_append (Refuse ∷ a) b p q = own_append a b p q
own_append (Publish ∷ a) b p q = own_append a b p q
own_append _ b p q = absurd p

may_here : (most : ℕ) (first : List Event) (e : Event) (rest : List Event) → NoneIsReaders (e ∷ rest)
    → MayFollow most new_store first e → May most (state_of first) e
may_here most first (Accept load) rest own may = may
may_here most first (Enter reader version) rest own may = absurd own
may_here most first (Learn reader version) rest own may = absurd own
may_here most first _ rest own may = tt

own_rest : (e : Event) (rest : List Event) → NoneIsReaders (e ∷ rest) → NoneIsReaders rest
own_rest (Enter reader version) rest own = absurd own
own_rest (Learn reader version) rest own = absurd own
own_rest _ rest own = own

runs_behind : (most : ℕ) (first rest : List Event) → IsLegal most (first ++ rest) → NoneIsReaders rest
    → Runs most (state_of first) rest
runs_behind most first [] legal own = tt
runs_behind most first (e ∷ rest) legal own =
    let more : IsLegal most ((first ++ e ∷ []) ++ rest) = subst (λ (l : List Event). IsLegal most l)
    (sym (append_assoc first (e ∷ []) rest)) legal in
    let next : Runs most (state_of (first ++ e ∷ [])) rest = runs_behind most (first ++ e ∷ []) rest more
    (own_rest e rest own) in (
      may_here most first e rest own (legal first e rest refl),
      subst (λ (s : State). Runs most s rest) (state_append new_store first (e ∷ [])) next,
    )

pub own_runs : (most : ℕ) (work : List Event) → IsLegal most work → NoneIsReaders work → Runs most new_store work
own_runs most work legal own = runs_behind most [] work legal own

-- some more events
pub work_append : (work more : List Event) (s t : StoreLists) → HasWorked work s → t.most ≡ s.most → NoneIsReaders more
    → Runs s.most (state_of work) more → (state_of (work ++ more)).batches ≡ t.batches
    → (state_of (work ++ more)).pending ≡ t.pending → HasWorked (work ++ more) t
work_append work more s t worked most own runs batches pending = record {
  legal = subst (λ (n : ℕ). IsLegal n (work ++ more)) (sym most)
      (runs_legal s.most new_store (work ++ more)
      (runs_append s.most new_store work more (own_runs s.most work worked.legal worked.own) runs));
  own = own_append work more worked.own own;
  batches = batches;
  pending = pending;
}

-- a load is accepted
pub added : (work : List Event) (s t : StoreValue) (load : LoadValue) → HasWorked work (lists_of s)
    → version_of s.seen.batches + length s.pending < s.most → t ≡ record s { pending = s.pending ++ load ∷ [] }
    → HasWorked (work ++ Accept load ∷ []) (lists_of t)
added work s t load worked room is =
    let n : version_of (state_of work).batches ≡ version_of s.seen.batches = ap version_of worked.batches in
    let m : length (state_of work).pending ≡ length s.pending = ap length worked.pending in
    let here : state_of (work ++ Accept load ∷ []) ≡ after (state_of work) (Accept load) =
    state_append new_store work (Accept load ∷ []) in
    let fits : version_of (state_of work).batches + length (state_of work).pending < s.most = omega
    (arith, n, m, room) in
    work_append work (Accept load ∷ []) (lists_of s) (lists_of t) worked (ap (λ (x : StoreValue). x.most) is) tt
    (fits, tt)
    (ap (λ (x : State). x.batches) here ∙ (worked.batches ∙ ap (λ (x : StoreValue). x.seen.batches) (sym is)))
    (ap (λ (x : State). x.pending) here ∙ (ap (λ l. l ++ load ∷ []) worked.pending
    ∙ ap (λ (x : StoreValue). x.pending) (sym is)))

pub load_keeps : LoadKeeps
load_keeps work s t domain locale text options stats worked is =
    added work s t (record { domain = domain; locale = locale; map = is.compiled.catalogue }) worked is.adds.room
    is.adds.after_is

pub load_mo_keeps : LoadMoKeeps
load_mo_keeps work s t domain locale bytes entries worked is =
    added work s t (record { domain = domain; locale = locale; map = is.map }) worked is.adds.room is.adds.after_is

pub refusal_keeps : RefusalKeeps
refusal_keeps work s t worked is =
    let here : state_of (work ++ Refuse ∷ []) ≡ state_of work = state_append new_store work (Refuse ∷ []) in
    work_append work (Refuse ∷ []) (lists_of s) (lists_of t) worked (ap (λ (x : StoreValue). x.most) is) tt (tt, tt)
    (ap (λ (x : State). x.batches) here ∙ (worked.batches ∙ ap (λ (x : StoreValue). x.seen.batches) (sym is)))
    (ap (λ (x : State). x.pending) here ∙ (worked.pending ∙ ap (λ (x : StoreValue). x.pending) (sym is)))

pub publish_keeps : PublishKeeps
publish_keeps work s t worked seen pending most =
    let here : state_of (work ++ Publish ∷ []) ≡ after (state_of work) Publish =
    state_append new_store work (Publish ∷ []) in
    let same : after_publish (state_of work).batches (state_of work).pending ≡ after_publish s.seen.batches s.pending =
    λ i. after_publish (worked.batches i) (worked.pending i) in
    work_append work (Publish ∷ []) (lists_of s) (lists_of t) worked most tt (tt, tt)
    (ap (λ (x : State). x.batches) here ∙ (same ∙ ap (λ (x : SeenValue). x.batches) (sym seen)))
    (ap (λ (x : State). x.pending) here ∙ sym pending)

-- ---- the opening

all_next : (P : SeenValue → Type 0) (r : SeenValue) (rs : List SeenValue) → All P (r ∷ rs) → All P rs
all_next P r rs all k d less = all (suc k) d (omega (arith, less))

acted_none : (seen : SeenValue) (readers : List SeenValue) → seen.batches ≡ [] → All (λ r. r ≡ seen) readers
    → AllZip HasActed (map (λ r. []) readers) (map (λ r. r.batches) readers)
acted_none seen [] none all = tt
acted_none seen (r ∷ rs) none all =
    let is : r ≡ seen = all 0 seen (omega arith) in (
      ap (λ (x : SeenValue). x.batches) is ∙ none,
      acted_none seen rs none (all_next (λ r. r ≡ seen) r rs all),
    )

pub worked_none : (s : StoreValue) → s.seen.batches ≡ [] → s.pending ≡ [] → HasWorked [] (lists_of s)
worked_none s none pending =
    record { legal = runs_legal s.most new_store [] tt; own = tt; batches = sym none; pending = sym pending }

pub open_reaches : OpenReaches
open_reaches s readers none pending all =
    record { worked = worked_none s none pending; acted = acted_none s.seen readers none all }
