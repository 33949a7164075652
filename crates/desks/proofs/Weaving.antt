-- One more worker's answers are put into a history, each after the publish whose version it names.
use Rattle.std.proofs.Common.{◌≡◌, ◌≢◌, ℕ, ◌+◌, ◌≤◌, ◌<◌, ◌==◌, Bool, true, false, if◌then◌else◌, List, [], ◌∷◌}
use Rattle.std.proofs.Common.{◌++◌, length, take, sym, refl, ap, ◌∙◌, subst, arith, length-append}
use Rattle.std.specs.Prelude.{⊤}
use Rattle.std.specs.String.{string_bytes}
use Rattle.std.proofs.lemmas.List.{append-nil}
use Rattle.std.proofs.lemmas.Bool.Decides.{nat_tests}
use Rattle.live_set.specs.Loads.{LoadValue}
use Rattle.live_set.specs.Asks.{QueryValue, IsAnswer as HasText}
use Rattle.live_versions.specs.Batches.{joined_loads, version_of, StartsWith, after_publish}
use Rattle.live_versions.specs.History.{Event, State, Accept, Refuse, Publish, Enter, Learn, after, state_from}
use Rattle.live_versions.specs.History.{with_seen}
use Rattle.live_loads.proofs.Joining.{joined-append}
use Rattle.desks.specs.declared.desk.Answer.{Answer}
use Rattle.desks.specs.Answers.{IsVersionedAnswer, Answered}
use Rattle.desks.specs.ServedHistory.{Entry, IsAnswerOf, AreAnswersOf, entry_in, entries, without_entries}
use Rattle.desks.proofs.Runs.{May, Runs, Level, level_from, level_trans, runs_level, grows}
use Rattle.desks.proofs.Runs.{IsBelow, AreBelow, below_more, no_entry_in, entries_alike, work_more}

-- ---- beginnings of one list

version_front : (batches front : List (List LoadValue)) → StartsWith batches front
    → version_of front ≤ version_of batches
version_front batches front begins =
    let sum : version_of batches ≡ version_of front + length (joined_loads begins.0) = ap version_of begins.1
    ∙ (ap length (joined-append front begins.0) ∙ length-append (joined_loads front) (joined_loads begins.0)) in
    omega (arith, sum)

take_front : (xs ys : List LoadValue) → take (length xs) (xs ++ ys) ≡ xs
take_front [] ys = refl
take_front (x ∷ xs) ys = ap (λ l. x ∷ l) (take_front xs ys)

front_loads : (batches front : List (List LoadValue)) → StartsWith batches front
    → take (version_of front) (joined_loads batches) ≡ joined_loads front
front_loads batches front begins = ap (λ l. take (version_of front) (joined_loads l)) begins.1
    ∙ (ap (λ l. take (version_of front) l) (joined-append front begins.0)
    ∙ take_front (joined_loads front) (joined_loads begins.0))

-- a longer beginning also has the next batch
next_front : (end v : List (List LoadValue)) (batch : List LoadValue) (front : List (List LoadValue))
    → StartsWith end (v ++ batch ∷ []) → StartsWith end front → version_of v < version_of front
    → version_of (v ++ batch ∷ []) ≤ version_of front
next_front end [] batch [] p q less = absurd (omega (arith, less))
next_front end [] batch (y ∷ ys) p q less =
    let heads : batch ≡ y = cc (p.1, q.1) in
    let m : length (batch ++ []) ≡ length batch = ap length (append-nil batch) in
    let n : length (y ++ joined_loads ys) ≡ length y + length (joined_loads ys) = length-append y (joined_loads ys) in
    omega (arith, m, n, ap (length {A = LoadValue}) heads)
next_front end (x ∷ v) batch [] p q less = absurd (omega (arith, less))
next_front [] (x ∷ v) batch (y ∷ ys) p q less = absurd (cc (p.1))
next_front (z ∷ end) (x ∷ v) batch (y ∷ ys) p q less =
    let heads : x ≡ y = cc (p.1, q.1) in
    let long : length x ≡ length y = ap (length {A = LoadValue}) heads in
    let a : version_of (x ∷ v) ≡ length x + version_of v = length-append x (joined_loads v) in
    let b : version_of (y ∷ ys) ≡ length y + version_of ys = length-append y (joined_loads ys) in
    let c : length (x ++ joined_loads (v ++ batch ∷ [])) ≡ length x + version_of (v ++ batch ∷ []) = length-append x
    (joined_loads (v ++ batch ∷ [])) in
    let rest = next_front end v batch ys (p.0, cc (p.1)) (q.0, cc (q.1)) (omega (arith, a, b, long, less)) in
    omega (arith, b, c, long, rest)

published_front : (end v : List (List LoadValue)) (loads : List LoadValue) (front : List (List LoadValue))
    → StartsWith end (after_publish v loads) → StartsWith end front → version_of v < version_of front
    → version_of (after_publish v loads) ≤ version_of front
published_front end v [] front p q less = omega (arith, less)
published_front end v (load ∷ loads) front p q less = next_front end v (load ∷ loads) front p q less

-- a beginning that is ahead of what is published isn't overtaken by the next event
after_front : (s : State) (e : Event) (end front : List (List LoadValue)) → StartsWith end (after s e).batches
    → StartsWith end front → version_of s.batches < version_of front → version_of (after s e).batches ≤ version_of front
after_front s (Accept load) end front p q less = omega (arith, less)
after_front s Refuse end front p q less = omega (arith, less)
after_front s Publish end front p q less = published_front end s.batches s.pending front p q less
after_front s (Enter reader version) end front p q less = omega (arith, less)
after_front s (Learn reader version) end front p q less = omega (arith, less)

-- ---- the answers that a worker has left in a state

pub record AreLeft (worker : ℕ) (end : List (List LoadValue)) (s : State) (queries : List QueryValue)
    (answers : List Answer) : Type 0 where
  pub least : ℕ
  pub reached : version_of s.batches ≤ least
  pub seen : s.seen worker ≤ least
  pub answered : Answered end least queries answers

-- the first one is of a later version, if there is one
abbrev IsLater : ℕ → List Answer → Type 0
IsLater version [] = ⊤
IsLater version (answer ∷ answers) = (answer.version == version) ≡ false

-- an event of another reader leaves what this one has seen
seen_after : (worker : ℕ) (s : State) (e : Event) → IsBelow worker e → (after s e).seen worker ≡ s.seen worker
seen_after worker s (Accept load) is = refl
seen_after worker s Refuse is = refl
seen_after worker s Publish is = refl
seen_after worker s (Enter reader version) is =
    let no : (worker == reader) ≡ false = grind (arith, nat_tests, is) in
    ap (λ (b : Bool). if b then version else s.seen worker) no
seen_after worker s (Learn reader version) is = absurd is

left_after : (worker : ℕ) (end : List (List LoadValue)) (s : State) (e : Event) (queries : List QueryValue)
    (answers : List Answer) → IsBelow worker e → StartsWith end (after s e).batches
    → AreLeft worker end s queries answers → IsLater (version_of s.batches) answers
    → AreLeft worker end (after s e) queries answers
left_after worker end s e [] [] is begins left later = record {
  least = version_of (after s e).batches + (after s e).seen worker;
  reached = omega arith;
  seen = omega arith;
  answered = tt;
}
left_after worker end s e [] (answer ∷ answers) is begins left later = absurd left.answered
left_after worker end s e (query ∷ queries) [] is begins left later = absurd left.answered
left_after worker end s e (query ∷ queries) (answer ∷ answers) is begins left later =
    let one : IsVersionedAnswer end query answer = left.answered.1 in
    let no : answer.version ≢ version_of s.batches = grind (arith, nat_tests, later) in
    let least = left.answered.0 in
    let less : version_of s.batches < version_of one.front = omega
    (arith, no, least, left.reached, one.version_is) in
    let far = after_front s e end one.front begins one.begins less in
    let seen : (after s e).seen worker ≡ s.seen worker = seen_after worker s e is in
    record {
      least = answer.version;
      reached = omega (arith, far, one.version_is);
      seen = omega (arith, seen, left.seen, least);
      answered = (omega arith, one, left.answered.2);
    }

-- ---- the history with the answers put in

pub record Woven (most worker : ℕ) (s : State) (events : List Event) (queries : List QueryValue)
    (answers : List Answer) : Type 0 where
  pub history : List Event
  pub runs : Runs most s history
  pub below : AreBelow (worker + 1) history
  pub level : Level (state_from s history) (state_from s events)
  pub work : without_entries history ≡ without_entries events
  pub mine : AreAnswersOf (entries worker s history) queries answers
  pub others : (reader : ℕ) → (reader == worker) ≡ false → entries reader s history ≡ entries reader s events

same_number : (n : ℕ) → (n == n) ≡ true
same_number n = grind (arith, nat_tests)

-- one more answer, from an entry that comes first
enter : (most worker : ℕ) (s : State) (events : List Event) (query : QueryValue) (queries : List QueryValue)
    (answer : Answer) (answers : List Answer) → AreBelow worker events
    → IsAnswerOf (record { batches = s.batches; seen = s.seen worker }) query answer
    → Woven most worker (with_seen s worker (version_of s.batches)) events queries answers
    → Woven most worker s events (query ∷ queries) (answer ∷ answers)
enter most worker s events query queries answer answers below is w =
    let version = version_of s.batches in
    let u = with_seen s worker version in
    let met : entry_in worker s (Enter worker version) ≡ record { batches = s.batches; seen = s.seen worker } ∷ [] = ap
    (λ (b : Bool). if b then record { batches = s.batches; seen = s.seen worker } ∷ [] else []) (same_number worker) in
    let same : Level u s = record { batches = refl; pending = refl } in
    record {
      history = Enter worker version ∷ w.history;
      runs = (refl, w.runs);
      below = (omega arith, w.below);
      level = level_trans (state_from u w.history) (state_from u events) (state_from s events) w.level
          (level_from u s events same);
      work = w.work;
      mine = subst (λ (l : List Entry). AreAnswersOf (l ++ entries worker u w.history) (query ∷ queries)
          (answer ∷ answers)) (sym met) (is, w.mine);
      others = λ reader no.
          let none : entry_in reader s (Enter worker version) ≡ [] = ap
          (λ (b : Bool). if b then record { batches = s.batches; seen = s.seen reader } ∷ [] else []) no in
          let seen : u.seen reader ≡ s.seen reader = ap (λ (b : Bool). if b then version else s.seen reader) no in
          ap (λ l. l ++ entries reader u w.history) none ∙ (w.others reader no
          ∙ entries_alike worker reader u s events below (record { level = same; seen = seen }));
    }

-- the next event of the others
pass : (most worker : ℕ) (s : State) (e : Event) (events : List Event) (queries : List QueryValue)
    (answers : List Answer) → May most s e → IsBelow worker e → Woven most worker (after s e) events queries answers
    → entry_in worker s e ≡ [] → Woven most worker s (e ∷ events) queries answers
pass most worker s e events queries answers may is w none = record {
  history = e ∷ w.history;
  runs = (may, w.runs);
  below = (below_more worker e is, w.below);
  level = w.level;
  work = work_more e w.history events w.work;
  mine = subst (λ (l : List Entry). AreAnswersOf (l ++ entries worker (after s e) w.history) queries answers)
      (sym none) w.mine;
  others = λ reader no. ap (λ l. entry_in reader s e ++ l) (w.others reader no);
}

by_test : (t : Bool) {P : Type 0} → (t ≡ true → P) → (t ≡ false → P) → P
by_test true yes_ no_ = yes_ refl
by_test false yes_ no_ = no_ refl

-- ---- all answers of a worker

-- the state, with these numbers in place of its own
abbrev seen_as : State → (ℕ → ℕ) → State
seen_as s seen = record s { seen = seen }

-- the answers of this version, followed by what is to come
enter_all : (most worker : ℕ) (s : State) (events : List Event) (end : List (List LoadValue)) → AreBelow worker events
    → StartsWith end s.batches
    → ((seen : ℕ → ℕ) (queries : List QueryValue) (answers : List Answer)
    → AreLeft worker end (seen_as s seen) queries answers → IsLater (version_of s.batches) answers
    → Woven most worker (seen_as s seen) events queries answers)
    → (seen : ℕ → ℕ) (queries : List QueryValue) (answers : List Answer)
    → AreLeft worker end (seen_as s seen) queries answers → Woven most worker (seen_as s seen) events queries answers
enter_all most worker s events end below begins go seen [] [] left = go seen [] [] left tt
enter_all most worker s events end below begins go seen [] (answer ∷ answers) left = absurd left.answered
enter_all most worker s events end below begins go seen (query ∷ queries) [] left = absurd left.answered
enter_all most worker s events end below begins go seen (query ∷ queries) (answer ∷ answers) left =
    let version = version_of s.batches in
    let u = with_seen (seen_as s seen) worker version in
    let least = left.answered.0 in
    by_test (answer.version == version)
    (λ yes_.
    let here : answer.version ≡ version = grind (arith, nat_tests, yes_) in
    let loads : take answer.version (joined_loads end) ≡ joined_loads s.batches =
    ap (λ n. take n (joined_loads end)) here
    ∙ front_loads end s.batches begins in
    let is : IsAnswerOf (record { batches = s.batches; seen = seen worker }) query answer = record {
      version_is = here;
      no_less = omega (arith, least, left.seen);
      text_is = subst (λ (l : List LoadValue). HasText l query (string_bytes answer.text)) loads
          left.answered.1.text_is;
    } in
    let now : u.seen worker ≡ version = ap (λ (b : Bool). if b then version else seen worker) (same_number worker) in
    let rest : AreLeft worker end u queries answers = record {
      least = answer.version;
      reached = omega (arith, here);
      seen = omega (arith, here, now);
      answered = left.answered.2;
    } in
    enter most worker (seen_as s seen) events query queries answer answers below is
    (enter_all most worker s events end below begins go u.seen queries answers rest))
    (λ no_. go seen (query ∷ queries) (answer ∷ answers) left no_)

none_left : (most worker : ℕ) (s : State) (end : List (List LoadValue)) (queries : List QueryValue)
    (answers : List Answer) → end ≡ s.batches → AreLeft worker end s queries answers
    → IsLater (version_of s.batches) answers → Woven most worker s [] queries answers
none_left most worker s end [] [] is left later = record {
  history = [];
  runs = tt;
  below = tt;
  level = record { batches = refl; pending = refl };
  work = refl;
  mine = tt;
  others = λ reader no. refl;
}
none_left most worker s end [] (answer ∷ answers) is left later = absurd left.answered
none_left most worker s end (query ∷ queries) [] is left later = absurd left.answered
none_left most worker s end (query ∷ queries) (answer ∷ answers) is left later =
    let one : IsVersionedAnswer end query answer = left.answered.1 in
    let no : answer.version ≢ version_of s.batches = grind (arith, nat_tests, later) in
    let far = version_front end one.front one.begins in
    let same : version_of end ≡ version_of s.batches = ap version_of is in
    absurd (omega (arith, no, far, same, one.version_is, left.answered.0, left.reached))

pub weave : (most worker : ℕ) (s : State) (events : List Event) (queries : List QueryValue) (answers : List Answer)
    (end : List (List LoadValue)) → Runs most s events → AreBelow worker events → end ≡ (state_from s events).batches
    → AreLeft worker end s queries answers → Woven most worker s events queries answers
weave most worker s [] queries answers end runs below is left =
    let begins : StartsWith end s.batches = subst (λ (l : List (List LoadValue)). StartsWith l s.batches) (sym is)
    (grows s []) in
    enter_all most worker s [] end below begins
    (λ seen qs as_ l later. none_left most worker (seen_as s seen) end qs as_ is l later) s.seen queries answers left
weave most worker s (e ∷ events) queries answers end runs below is left =
    let begins : StartsWith end s.batches = subst (λ (l : List (List LoadValue)). StartsWith l s.batches) (sym is)
    (grows s (e ∷ events)) in
    enter_all most worker s (e ∷ events) end below begins
    (λ seen qs as_ l later.
    let u = seen_as s seen in
    let same : Level s u = record { batches = refl; pending = refl } in
    let runs_now = runs_level most s u (e ∷ events) same runs in
    let ends : end ≡ (state_from (after u e) events).batches = is ∙ (level_from s u (e ∷ events) same).batches in
    let begins_then : StartsWith end (after u e).batches = subst
    (λ (l : List (List LoadValue)). StartsWith l (after u e).batches) (sym ends) (grows (after u e) events) in
    pass most worker u e events qs as_ runs_now.0 below.0
    (weave most worker (after u e) events qs as_ end runs_now.1 below.1 ends
    (left_after worker end u e qs as_ below.0 begins_then l later))
    (no_entry_in worker worker u e below.0 (omega arith))) s.seen queries answers left
