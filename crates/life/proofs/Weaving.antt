-- One more reader's acts are put into a history: each where what is published is what the reader has seen behind it.
use Rattle.life.proofs.Common.{AllZip, ◌≡◌, ℕ, ◌+◌, ◌≤◌, ◌==◌, Bool, true, false, if◌then◌else◌, max, List, [], ◌∷◌}
use Rattle.life.proofs.Common.{◌++◌, length, refl, sym, ap, ◌∙◌, subst, arith, length-append, ⊎_elim, nat_tests}
use Rattle.life.proofs.Common.{append-nil, LoadValue, joined_loads, version_of, StartsWith, Event, State, Enter, Learn}
use Rattle.life.proofs.Common.{after}
use Rattle.life.proofs.Common.{with_seen, state_from, IsWhole, begins_refl, begins_trans, without_entries}
use Rattle.life.proofs.Common.{version_grows, Level, level_from, level_trans, grows, work_more, Looked, Act, Enters}
use Rattle.life.proofs.Common.{Learns, AreTexts, IsLearning, Leads, LeadsAll, Met, Notice, met_in, steps_of, IsStepOf}
use Rattle.life.specs.Life.{Entry}
use Rattle.life.proofs.Histories.{next_begins, Fits, Goes, goes_level, IsUnder, AreUnder, under_more, not_met_in}
use Rattle.life.proofs.Histories.{seen_after, met_alike, seen_alike}

-- ---- the acts that are left to a reader in a state

leads_begins : (a : List (List LoadValue)) (act : Act) (b : List (List LoadValue)) → Leads a act b → StartsWith b a
leads_begins a (Enters version looked) b leads = leads.later
leads_begins a (Learns version) b leads = leads.later

pub leads_all_begins : (a : List (List LoadValue)) (acts : List Act) (b : List (List LoadValue)) → LeadsAll a acts b
    → StartsWith b a
leads_all_begins a [] b is = subst (λ (l : List (List LoadValue)). StartsWith l a) (sym is) (begins_refl a)
leads_all_begins a (act ∷ acts) b (next, leads, all) =
    begins_trans b next a (leads_all_begins next acts b all) (leads_begins a act next leads)

-- what the next act shows isn't behind what is published now
abbrev pub Left : ℕ → List (List LoadValue) → List Act → List (List LoadValue) → Type 0
Left seen now [] end = seen ≡ version_of end
Left seen now (act ∷ acts) end = (cur next : List (List LoadValue)) × (seen ≡ version_of cur) × StartsWith next now
    × Leads cur act next × LeadsAll next acts end

-- it is more than what is published now
abbrev Later : ℕ → List (List LoadValue) → List Act → List (List LoadValue) → Type 0
Later seen now [] end = seen ≡ version_of end
Later seen now (act ∷ acts) end = (cur next : List (List LoadValue)) × (x : List LoadValue)
    × (xs : List (List LoadValue)) × (seen ≡ version_of cur) × (next ≡ now ++ x ∷ xs) × Leads cur act next
    × LeadsAll next acts end

pub left_here : (now next : List (List LoadValue)) (acts : List Act) (end : List (List LoadValue)) → next ≡ now
    → LeadsAll next acts end → Left (version_of next) now acts end
left_here now next [] end same all = ap version_of (sym all)
left_here now next (act ∷ acts) end same (more, leads, all) = (
  next,
  more,
  refl,
  subst (λ (l : List (List LoadValue)). StartsWith more l) same (leads_begins next act more leads),
  leads,
  all,
)

left_after : (seen : ℕ) (s : State) (e : Event) (acts : List Act) (end fin : List (List LoadValue))
    → Later seen s.batches acts end → StartsWith fin end → StartsWith fin (after s e).batches
    → Left seen (after s e).batches acts end
left_after seen s e [] end fin later far begins = later
left_after seen s e (act ∷ acts) end fin (cur, next, x, xs, n, is, leads, all) far begins =
    let over : StartsWith fin next = begins_trans fin end next far (leads_all_begins next acts end all) in
    (cur, next, n, next_begins s e fin next x xs is over begins, leads, all)

none_later : (fin now next : List (List LoadValue)) (x : List LoadValue) (xs : List (List LoadValue)) → fin ≡ now
    → next ≡ now ++ x ∷ xs → StartsWith fin next → ⊥
none_later fin now next x xs is more far =
    let a : length fin ≡ length next + length far.0 = ap (length {A = List LoadValue}) far.1
    ∙ length-append next far.0 in
    let b : length next ≡ length now + length (x ∷ xs) = ap (length {A = List LoadValue}) more
    ∙ length-append now (x ∷ xs) in
    let c : length fin ≡ length now = ap (length {A = List LoadValue}) is in
    omega (arith, a, b, c)

-- ---- the history with the acts put in

pub record Woven (most r : ℕ) (s : State) (events : List Event) (acts : List Act) (last : ℕ) : Type 0 where
  pub history : List Event
  pub goes : Goes most s history
  pub under : AreUnder (r + 1) history
  pub level : Level (state_from s history) (state_from s events)
  pub work : without_entries history ≡ without_entries events
  pub mine : AllZip IsStepOf acts (steps_of r s history)
  pub seen : (state_from s history).seen r ≡ last
  pub others : (reader : ℕ) → (reader == r) ≡ false → steps_of reader s history ≡ steps_of reader s events
  pub others_seen : (reader : ℕ) → (reader == r) ≡ false
      → (state_from s history).seen reader ≡ (state_from s events).seen reader

same_number : (n : ℕ) → (n == n) ≡ true
same_number n = grind (arith, nat_tests)

-- the event is this act of the reader, and nothing else
record IsOwn (r : ℕ) (s : State) (e : Event) (act : Act) : Type 0 where
  pub under : IsUnder (r + 1) e
  pub level : Level (after s e) s
  pub work : (events : List Event) → without_entries (e ∷ events) ≡ without_entries events
  pub step : Met
  pub step_is : met_in r s e ≡ step ∷ []
  pub is : IsStepOf act step
  pub none : (reader : ℕ) → (reader == r) ≡ false → met_in reader s e ≡ []
  pub seen : (reader : ℕ) → (reader == r) ≡ false → (after s e).seen reader ≡ s.seen reader

own_enter : (r version : ℕ) (looked : List Looked) (s : State) → version ≡ version_of s.batches → s.seen r ≤ version
    → AreTexts (joined_loads s.batches) looked → IsOwn r s (Enter r version) (Enters version looked)
own_enter r version looked s here le texts = record {
  under = omega arith;
  level = record { batches = refl; pending = refl };
  work = λ events. refl;
  step = Entry s.batches (s.seen r);
  step_is = ap (λ (b : Bool). if b then Entry s.batches (s.seen r) ∷ [] else []) (same_number r);
  is = (here, le, texts);
  none = λ reader no. ap (λ (b : Bool). if b then Entry s.batches (s.seen reader) ∷ [] else []) no;
  seen = λ reader no. ap (λ (b : Bool). if b then version else s.seen reader) no;
}

own_learn : (r version : ℕ) (s : State) → IsOwn r s (Learn r version) (Learns version)
own_learn r version s = record {
  under = omega arith;
  level = record { batches = refl; pending = refl };
  work = λ events. refl;
  step = Notice version;
  step_is = ap (λ (b : Bool). if b then Notice version ∷ [] else []) (same_number r);
  is = refl;
  none = λ reader no. ap (λ (b : Bool). if b then Notice version ∷ [] else []) no;
  seen = λ reader no. ap (λ (b : Bool). if b then max (s.seen r) version else s.seen reader) no;
}

-- one act more, which comes first
put : (most r : ℕ) (s : State) (events : List Event) (e : Event) (act : Act) (acts : List Act) (last : ℕ)
    → Fits most s e → IsOwn r s e act → Woven most r (after s e) events acts last
    → Woven most r s events (act ∷ acts) last
put most r s events e act acts last fit own w =
    let u : State = after s e in
    record {
      history = e ∷ w.history;
      goes = (fit, w.goes);
      under = (own.under, w.under);
      level = level_trans (state_from u w.history) (state_from u events) (state_from s events) w.level
          (level_from u s events own.level);
      work = own.work w.history ∙ w.work;
      mine = subst (λ (l : List Met). AllZip IsStepOf (act ∷ acts) (l ++ steps_of r u w.history)) (sym own.step_is)
          (own.is, w.mine);
      seen = w.seen;
      others = λ reader no.
          ap (λ (l : List Met). l ++ steps_of reader u w.history) (own.none reader no) ∙ (w.others reader no
          ∙ met_alike reader u s events (record { level = own.level; seen = own.seen reader no }));
      others_seen = λ reader no. w.others_seen reader no
          ∙ seen_alike reader u s events (record { level = own.level; seen = own.seen reader no });
    }

-- the next event of the others
pass : (most r : ℕ) (s : State) (e : Event) (events : List Event) (acts : List Act) (last : ℕ) → Fits most s e
    → IsUnder r e → Woven most r (after s e) events acts last → Woven most r s (e ∷ events) acts last
pass most r s e events acts last fit is w = record {
  history = e ∷ w.history;
  goes = (fit, w.goes);
  under = (under_more r e is, w.under);
  level = w.level;
  work = work_more e w.history events w.work;
  mine = subst (λ (l : List Met). AllZip IsStepOf acts (l ++ steps_of r (after s e) w.history))
      (sym (not_met_in r r s e is (omega arith))) w.mine;
  seen = w.seen;
  others = λ reader no. ap (λ (l : List Met). met_in reader s e ++ l) (w.others reader no);
  others_seen = w.others_seen;
}

-- ---- all acts of a reader

-- the state, with these numbers in place of its own
abbrev pub seen_as : State → (ℕ → ℕ) → State
seen_as s seen = record s { seen = seen }

pub learnt_version : (seen version : ℕ) (cur next : List (List LoadValue)) → seen ≡ version_of cur
    → IsLearning cur version next → max seen version ≡ version_of next
learnt_version seen version cur next n leads =
    let a : version_of cur ≤ version_of next = version_grows next cur leads.later in
    let b : version_of leads.notice ≤ version_of next = version_grows next leads.notice leads.told in
    ⊎_elim
    (λ (is : next ≡ cur). let c : version_of next ≡ version_of cur = ap version_of is in omega
    (arith, a, b, c, n, leads.version_is))
    (λ (is : next ≡ leads.notice). let c : version_of next ≡ version_of leads.notice = ap version_of is in omega
    (arith, a, b, c, n, leads.version_is)) leads.one

-- the acts of this version, and then what is to come
put_all : (most r : ℕ) (s : State) (events : List Event) (end : List (List LoadValue))
    → ((seen : ℕ → ℕ) (acts : List Act) → Later (seen r) s.batches acts end
    → Woven most r (seen_as s seen) events acts (version_of end))
    → (seen : ℕ → ℕ) (acts : List Act) → Left (seen r) s.batches acts end
    → Woven most r (seen_as s seen) events acts (version_of end)
put_all most r s events end go seen [] left = go seen [] left
put_all most r s events end go seen (Enters version looked ∷ acts) (cur, next, n, ([], is), leads, all) =
    let u : State = with_seen (seen_as s seen) r version in
    let same : next ≡ s.batches = is ∙ append-nil s.batches in
    let here : version ≡ version_of s.batches = leads.version_is ∙ ap version_of same in
    let le : version_of cur ≤ version_of next = version_grows next cur leads.later in
    let now : u.seen r ≡ version_of next = ap (λ (b : Bool). if b then version else seen r) (same_number r)
    ∙ leads.version_is in
    let texts : AreTexts (joined_loads s.batches) looked = subst
    (λ (l : List (List LoadValue)). AreTexts (joined_loads l) looked) same leads.texts in
    let rest : Left (u.seen r) s.batches acts end = subst (λ (k : ℕ). Left k s.batches acts end) (sym now)
    (left_here s.batches next acts end same all) in
    put most r (seen_as s seen) events (Enter r version) (Enters version looked) acts (version_of end) here
    (own_enter r version looked (seen_as s seen) here (omega (arith, n, le, leads.version_is)) texts)
    (put_all most r s events end go u.seen acts rest)
put_all most r s events end go seen (Learns version ∷ acts) (cur, next, n, ([], is), leads, all) =
    let u : State = after (seen_as s seen) (Learn r version) in
    let same : next ≡ s.batches = is ∙ append-nil s.batches in
    let now : u.seen r ≡ version_of next = ap (λ (b : Bool). if b then max (seen r) version else seen r)
    (same_number r) ∙ learnt_version (seen r) version cur next n leads in
    let whole : IsWhole (seen_as s seen) version = (
      leads.notice,
      subst (λ (l : List (List LoadValue)). StartsWith l leads.notice) same leads.told,
      leads.version_is,
    ) in
    let rest : Left (u.seen r) s.batches acts end = subst (λ (k : ℕ). Left k s.batches acts end) (sym now)
    (left_here s.batches next acts end same all) in
    put most r (seen_as s seen) events (Learn r version) (Learns version) acts (version_of end) whole
    (own_learn r version (seen_as s seen)) (put_all most r s events end go u.seen acts rest)
put_all most r s events end go seen (act ∷ acts) (cur, next, n, (x ∷ xs, is), leads, all) =
    go seen (act ∷ acts) (cur, next, x, xs, n, is, leads, all)

none_left : (most r : ℕ) (s : State) (acts : List Act) (end fin : List (List LoadValue)) → fin ≡ s.batches
    → StartsWith fin end → Later (s.seen r) s.batches acts end → Woven most r s [] acts (version_of end)
none_left most r s [] end fin is far later = record {
  history = [];
  goes = tt;
  under = tt;
  level = record { batches = refl; pending = refl };
  work = refl;
  mine = tt;
  seen = later;
  others = λ reader no. refl;
  others_seen = λ reader no. refl;
}
none_left most r s (act ∷ acts) end fin is far (cur, next, x, xs, n, more, leads, all) =
    absurd (none_later fin s.batches next x xs is more
    (begins_trans fin end next far (leads_all_begins next acts end all)))

pub weave : (most r : ℕ) (s : State) (events : List Event) (acts : List Act) (end fin : List (List LoadValue))
    → Goes most s events → AreUnder r events → fin ≡ (state_from s events).batches → StartsWith fin end
    → Left (s.seen r) s.batches acts end → Woven most r s events acts (version_of end)
weave most r s [] acts end fin goes under is far left =
    put_all most r s [] end (λ seen todo later. none_left most r (seen_as s seen) todo end fin is far later) s.seen acts
    left
weave most r s (e ∷ events) acts end fin goes under is far left =
    put_all most r s (e ∷ events) end
    (λ seen todo later.
    let u : State = seen_as s seen in
    let same : Level s u = record { batches = refl; pending = refl } in
    let goes_now = goes_level most s u (e ∷ events) same goes in
    let ends : fin ≡ (state_from (after u e) events).batches = is ∙ (level_from s u (e ∷ events) same).batches in
    let begins : StartsWith fin (after u e).batches = subst
    (λ (l : List (List LoadValue)). StartsWith l (after u e).batches) (sym ends) (grows (after u e) events) in
    let kept : (after u e).seen r ≡ seen r = seen_after r r u e under.0 (omega arith) in
    let next : Left ((after u e).seen r) (after u e).batches todo end = subst
    (λ (k : ℕ). Left k (after u e).batches todo end) (sym kept)
    (left_after (seen r) u e todo end fin later far begins) in
    pass most r u e events todo (version_of end) goes_now.0 under.0
    (weave most r (after u e) events todo end fin goes_now.1 under.1 ends far next)) s.seen acts left
