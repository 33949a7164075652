-- Histories from the opening on, event by event; and what the same events are in two states.
use Rattle.life.proofs.Common.{◌≡◌, ℕ, ◌+◌, ◌≤◌, ◌<◌, ◌==◌, Bool, true, false, if◌then◌else◌, max, List, [], ◌∷◌, ◌++◌}
use Rattle.life.proofs.Common.{length, refl, sym, ap, ◌∙◌, subst, arith, nat_tests, append-nil, LoadValue, version_of}
use Rattle.life.proofs.Common.{StartsWith, after_publish, Event, State, Accept, Refuse, Enter, Learn, new_store, after}
use Rattle.life.proofs.Common.{state_from, state_of, WasPublished, MayFollow, IsLegal, IsWhole, begins_refl, begins_nil}
use Rattle.life.proofs.Common.{version_grows, May, Runs, Level, level_after, grows, Met, Notice, met_in, steps_of}
use Rattle.std.specs.Prelude.{⊤}
use Rattle.live_versions.specs.History.{Publish}
use Rattle.life.specs.Life.{Entry}

-- ---- the next batch

-- of two beginnings of one list the longer one also has the next batch
next_batch : (fin now : List (List LoadValue)) (p x : List LoadValue) (xs : List (List LoadValue))
    → StartsWith fin (now ++ x ∷ xs) → StartsWith fin (now ++ p ∷ [])
    → StartsWith (now ++ x ∷ xs) (now ++ p ∷ [])
next_batch fin [] p x xs a b = let heads : x ≡ p = cc (a.1, b.1) in (xs, ap (λ (y : List LoadValue). y ∷ xs) heads)
next_batch [] (n ∷ now) p x xs a b = absurd (cc (a.1))
next_batch (f ∷ fin) (n ∷ now) p x xs a b =
    let rest = next_batch fin now p x xs (a.0, cc (a.1)) (b.0, cc (b.1)) in
    (rest.0, ap (λ (l : List (List LoadValue)). n ∷ l) rest.1)

next_published : (fin now front : List (List LoadValue)) (loads : List LoadValue) (x : List LoadValue)
    (xs : List (List LoadValue)) → front ≡ now ++ x ∷ xs → StartsWith fin front
    → StartsWith fin (after_publish now loads)
    → StartsWith front (after_publish now loads)
next_published fin now front [] x xs is a b = (x ∷ xs, is)
next_published fin now front (l ∷ ls) x xs is a b =
    subst (λ (z : List (List LoadValue)). StartsWith z (now ++ (l ∷ ls) ∷ [])) (sym is)
    (next_batch fin now (l ∷ ls) x xs (subst (λ (z : List (List LoadValue)). StartsWith fin z) is a) b)

-- a list that goes on behind what is published begins with what the next event leaves
pub next_begins : (s : State) (e : Event) (fin front : List (List LoadValue)) (x : List LoadValue)
    (xs : List (List LoadValue)) → front ≡ s.batches ++ x ∷ xs → StartsWith fin front
    → StartsWith fin (after s e).batches → StartsWith front (after s e).batches
next_begins s Publish fin front x xs is a b = next_published fin s.batches front s.pending x xs is a b
next_begins s _ fin front x xs is a b = (x ∷ xs, is)

-- ---- each beginning was published

was_from : (s : State) (events : List Event) (front : List (List LoadValue))
    → StartsWith (state_from s events).batches front → StartsWith front s.batches
    → WasPublished s events (version_of front)
was_from s [] front a b =
    let le : version_of front ≤ version_of s.batches = version_grows s.batches front a in
    let ge : version_of s.batches ≤ version_of front = version_grows front s.batches b in
    ([], [], refl, omega (arith, le, ge))
was_from s (e ∷ events) front a ([], is) =
    ([], e ∷ events, refl, ap version_of (is ∙ append-nil s.batches))
was_from s (e ∷ events) front a (x ∷ xs, is) =
    let far = next_begins s e (state_from (after s e) events).batches front x xs is a (grows (after s e) events) in
    let was = was_from (after s e) events front a far in
    (e ∷ was.0, was.1, ap (λ (l : List Event). e ∷ l) was.2, was.3)

-- ---- what an event needs

abbrev pub Fits : ℕ → State → Event → Type 0
Fits most s (Accept load) = version_of s.batches + length s.pending < most
Fits most s Refuse = ⊤
Fits most s Publish = ⊤
Fits most s (Enter reader version) = version ≡ version_of s.batches
Fits most s (Learn reader version) = IsWhole s version

abbrev pub Goes : ℕ → State → List Event → Type 0
Goes most s [] = ⊤
Goes most s (e ∷ events) = Fits most s e × Goes most (after s e) events

may_fit : (most : ℕ) (s : State) (e : Event) → May most s e → Fits most s e
may_fit most s Refuse may = tt
may_fit most s Publish may = tt
may_fit most s (Learn reader version) may = (s.batches, begins_refl s.batches, may)
may_fit most s _ may = may

pub runs_go : (most : ℕ) (s : State) (events : List Event) → Runs most s events → Goes most s events
runs_go most s [] runs = tt
runs_go most s (e ∷ events) runs = (may_fit most s e runs.0, runs_go most (after s e) events runs.1)

goes_at : (most : ℕ) (s : State) (first : List Event) (e : Event) (rest : List Event)
    → Goes most s (first ++ e ∷ rest) → Fits most (state_from s first) e
goes_at most s [] e rest goes = goes.0
goes_at most s (x ∷ first) e rest goes = goes_at most (after s x) first e rest goes.1

fit_follows : (most : ℕ) (first : List Event) (e : Event) → Fits most (state_of first) e
    → MayFollow most new_store first e
fit_follows most first Refuse fit = tt
fit_follows most first Publish fit = tt
fit_follows most first (Learn reader version) (front, begins, is) =
    subst (λ (n : ℕ). WasPublished new_store first n) (sym is)
    (was_from new_store first front begins (begins_nil front))
fit_follows most first _ fit = fit

pub goes_legal : (most : ℕ) (events : List Event) → Goes most new_store events → IsLegal most events
goes_legal most events goes first e rest is = fit_follows most first e
    (goes_at most new_store first e rest (subst (λ (l : List Event). Goes most new_store l) is goes))

fit_level : (most : ℕ) (s u : State) (e : Event) → Level s u → Fits most s e → Fits most u e
fit_level most s u (Accept load) same fit =
    let n : version_of s.batches ≡ version_of u.batches = ap version_of same.batches in
    let m : length s.pending ≡ length u.pending = ap length same.pending in
    omega (arith, n, m, fit)
fit_level most s u (Enter reader version) same fit = fit ∙ ap version_of same.batches
fit_level most s u (Learn reader version) same (front, begins, is) =
    (front, subst (λ (l : List (List LoadValue)). StartsWith l front) same.batches begins, is)
fit_level most s u _ same fit = tt

pub goes_level : (most : ℕ) (s u : State) (events : List Event) → Level s u → Goes most s events → Goes most u events
goes_level most s u [] same goes = tt
goes_level most s u (e ∷ events) same goes =
    (fit_level most s u e same goes.0, goes_level most (after s e) (after u e) events (level_after s u e same) goes.1)

-- ---- whose events they are

abbrev pub IsUnder : ℕ → Event → Type 0
IsUnder count (Enter reader version) = reader < count
IsUnder count (Learn reader version) = reader < count
IsUnder count _ = ⊤

abbrev pub AreUnder : ℕ → List Event → Type 0
AreUnder count [] = ⊤
AreUnder count (e ∷ events) = IsUnder count e × AreUnder count events

pub under_more : (count : ℕ) (e : Event) → IsUnder count e → IsUnder (count + 1) e
under_more count (Enter reader version) is = omega (arith, is)
under_more count (Learn reader version) is = omega (arith, is)
under_more count _ is = tt

pub not_met_in : (count reader : ℕ) (s : State) (e : Event) → IsUnder count e → count ≤ reader → met_in reader s e ≡ []
not_met_in count reader s (Enter other version) is le =
    let no : (reader == other) ≡ false = grind (arith, nat_tests, is, le) in
    ap (λ (b : Bool). if b then Entry s.batches (s.seen reader) ∷ [] else []) no
not_met_in count reader s (Learn other version) is le =
    let no : (reader == other) ≡ false = grind (arith, nat_tests, is, le) in
    ap (λ (b : Bool). if b then Notice version ∷ [] else []) no
not_met_in count reader s _ is le = refl

pub not_met : (count reader : ℕ) (s : State) (events : List Event) → AreUnder count events → count ≤ reader
    → steps_of reader s events ≡ []
not_met count reader s [] under le = refl
not_met count reader s (e ∷ events) under le =
    ap (λ (l : List Met). l ++ steps_of reader (after s e) events) (not_met_in count reader s e under.0 le)
    ∙ not_met count reader (after s e) events under.1 le

pub seen_after : (count reader : ℕ) (s : State) (e : Event) → IsUnder count e → count ≤ reader
    → (after s e).seen reader ≡ s.seen reader
seen_after count reader s (Enter other version) is le =
    let no : (reader == other) ≡ false = grind (arith, nat_tests, is, le) in
    ap (λ (b : Bool). if b then version else s.seen reader) no
seen_after count reader s (Learn other version) is le =
    let no : (reader == other) ≡ false = grind (arith, nat_tests, is, le) in
    ap (λ (b : Bool). if b then max (s.seen other) version else s.seen reader) no
seen_after count reader s _ is le = refl

pub seen_from : (count reader : ℕ) (s : State) (events : List Event) → AreUnder count events → count ≤ reader
    → (state_from s events).seen reader ≡ s.seen reader
seen_from count reader s [] under le = refl
seen_from count reader s (e ∷ events) under le =
    seen_from count reader (after s e) events under.1 le ∙ seen_after count reader s e under.0 le

-- ---- two states in which a reader meets the same

pub record Alike (reader : ℕ) (s u : State) : Type 0 where
  pub level : Level s u
  pub seen : s.seen reader ≡ u.seen reader

met_alike_in : (reader : ℕ) (s u : State) (e : Event) → Alike reader s u → met_in reader s e ≡ met_in reader u e
met_alike_in reader s u (Enter other version) same =
    λ i. if reader == other then Entry (same.level.batches i) (same.seen i) ∷ [] else []
met_alike_in reader s u _ same = refl

pub by_test : (t : Bool) {P : Type 0} → (t ≡ true → P) → (t ≡ false → P) → P
by_test true yes_ no_ = yes_ refl
by_test false yes_ no_ = no_ refl

learnt_alike : (reader other version : ℕ) (s u : State) → s.seen reader ≡ u.seen reader
    → (after s (Learn other version)).seen reader ≡ (after u (Learn other version)).seen reader
learnt_alike reader other version s u same =
    by_test (reader == other)
    (λ yes_.
    let is : reader ≡ other = grind (arith, nat_tests, yes_) in
    let here : s.seen other ≡ u.seen other = subst (λ (r : ℕ). s.seen r ≡ u.seen r) is same in
    λ i. if reader == other then max (here i) version else same i)
    (λ no_.
    ap (λ (b : Bool). if b then max (s.seen other) version else s.seen reader) no_
    ∙ (same ∙ sym (ap (λ (b : Bool). if b then max (u.seen other) version else u.seen reader) no_)))

alike_after : (reader : ℕ) (s u : State) (e : Event) → Alike reader s u → Alike reader (after s e) (after u e)
alike_after reader s u (Enter other version) same = record {
  level = level_after s u (Enter other version) same.level;
  seen = λ i. if reader == other then version else same.seen i;
}
alike_after reader s u (Learn other version) same = record {
  level = level_after s u (Learn other version) same.level;
  seen = learnt_alike reader other version s u same.seen;
}
alike_after reader s u e same = record { level = level_after s u e same.level; seen = same.seen }

pub met_alike : (reader : ℕ) (s u : State) (events : List Event) → Alike reader s u
    → steps_of reader s events ≡ steps_of reader u events
met_alike reader s u [] same = refl
met_alike reader s u (e ∷ events) same =
    let here = met_alike_in reader s u e same in
    let rest = met_alike reader (after s e) (after u e) events (alike_after reader s u e same) in
    λ i. here i ++ rest i

pub seen_alike : (reader : ℕ) (s u : State) (events : List Event) → Alike reader s u
    → (state_from s events).seen reader ≡ (state_from u events).seen reader
seen_alike reader s u [] same = same.seen
seen_alike reader s u (e ∷ events) same =
    seen_alike reader (after s e) (after u e) events (alike_after reader s u e same)
