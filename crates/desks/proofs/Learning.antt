-- After a history each worker's reader learns what is published.
use Rattle.std.specs.List.{AllZip}
use Rattle.std.proofs.Common.{◌≡◌, ℕ, zero, suc, ◌+◌, ◌≤◌, ◌<◌, ◌==◌, Bool, true, false, if◌then◌else◌, max}
use Rattle.std.proofs.Common.{List, [], ◌∷◌, ◌++◌, length, refl, sym, ap, ◌∙◌, subst, append_assoc, arith}
use Rattle.std.proofs.lemmas.Bool.Decides.{nat_tests}
use Rattle.live_versions.specs.Seen.{SeenValue}
use Rattle.live_versions.specs.Batches.{version_of}
use Rattle.live_versions.specs.History.{Event, State, Accept, Refuse, Publish, Enter, Learn, after, state_from}
use Rattle.desks.specs.declared.desk.Desk.{Desk}
use Rattle.desks.specs.Desks.{IsServed}
use Rattle.desks.specs.ServedHistory.{seen_by, entry_in, entries, without_entries}
use Rattle.desks.proofs.Answers.{version_grows}
use Rattle.desks.proofs.Runs.{Runs, Level, level_trans, grows}

-- the readers of these desks, which are counted from this number on, learn this version
abbrev pub learns : ℕ → ℕ → List Desk → List Event
learns first version [] = []
learns first version (desk ∷ desks) = Learn first version ∷ learns (first + 1) version desks

-- ---- one history after another

pub runs_append : (most : ℕ) (s : State) (a b : List Event) → Runs most s a → Runs most (state_from s a) b
    → Runs most s (a ++ b)
runs_append most s [] b p q = q
runs_append most s (e ∷ a) b p q = (p.0, runs_append most (after s e) a b p.1 q)

pub state_append : (s : State) (a b : List Event) → state_from s (a ++ b) ≡ state_from (state_from s a) b
state_append s [] b = refl
state_append s (e ∷ a) b = state_append (after s e) a b

pub entries_append : (reader : ℕ) (s : State) (a b : List Event)
    → entries reader s (a ++ b) ≡ entries reader s a ++ entries reader (state_from s a) b
entries_append reader s [] b = refl
entries_append reader s (e ∷ a) b =
    ap (λ l. entry_in reader s e ++ l) (entries_append reader (after s e) a b)
    ∙ sym (append_assoc (entry_in reader s e) (entries reader (after s e) a)
    (entries reader (state_from (after s e) a) b))

pub work_append : (a b : List Event) → without_entries b ≡ [] → without_entries (a ++ b) ≡ without_entries a
work_append [] b none = none
work_append (Accept load ∷ a) b none = ap (λ l. Accept load ∷ l) (work_append a b none)
work_append (Refuse ∷ a) b none = ap (λ l. Refuse ∷ l) (work_append a b none)
work_append (Publish ∷ a) b none = ap (λ l. Publish ∷ l) (work_append a b none)
work_append (Enter reader version ∷ a) b none = work_append a b none
work_append (Learn reader version ∷ a) b none = work_append a b none

-- ---- what learning leaves

pub entries_learns : (reader first version : ℕ) (s : State) (ds : List Desk)
    → entries reader s (learns first version ds) ≡ []
entries_learns reader first version s [] = refl
entries_learns reader first version s (d ∷ ds) =
    entries_learns reader (first + 1) version (after s (Learn first version)) ds

pub work_learns : (first version : ℕ) (ds : List Desk) → without_entries (learns first version ds) ≡ []
work_learns first version [] = refl
work_learns first version (d ∷ ds) = work_learns (first + 1) version ds

pub runs_learns : (most first version : ℕ) (s : State) (ds : List Desk) → version ≡ version_of s.batches
    → Runs most s (learns first version ds)
runs_learns most first version s [] is = tt
runs_learns most first version s (d ∷ ds) is =
    (is, runs_learns most (first + 1) version (after s (Learn first version)) ds is)

pub level_learns : (first version : ℕ) (s : State) (ds : List Desk) → Level s (state_from s (learns first version ds))
level_learns first version s [] = record { batches = refl; pending = refl }
level_learns first version s (d ∷ ds) =
    let u : State = after s (Learn first version) in
    let one : Level s u = record { batches = refl; pending = refl } in
    level_trans s u (state_from u (learns (first + 1) version ds)) one (level_learns (first + 1) version u ds)

-- ---- what the readers have seen

seen_before : (reader first version : ℕ) (s : State) (ds : List Desk) → reader < first
    → (state_from s (learns first version ds)).seen reader ≡ s.seen reader
seen_before reader first version s [] less = refl
seen_before reader first version s (d ∷ ds) less =
    let no : (reader == first) ≡ false = grind (arith, nat_tests, less) in
    seen_before reader (first + 1) version (after s (Learn first version)) ds (omega (arith, less))
    ∙ ap (λ (b : Bool). if b then max (s.seen first) version else s.seen reader) no

low_after : (s : State) (first version : ℕ) → ((reader : ℕ) → s.seen reader ≤ version) → (reader : ℕ)
    → (after s (Learn first version)).seen reader ≤ version
low_after s first version low reader =
    elim (reader == first) as (λ b. (if b then max (s.seen first) version else s.seen reader) ≤ version) [
      | true ↦ omega (arith, low first)
      | false ↦ low reader
    ]

pub seen_learns : (first version worker : ℕ) (s : State) (ds : List Desk) → worker < length ds
    → ((reader : ℕ) → s.seen reader ≤ version)
    → (state_from s (learns first version ds)).seen (first + worker) ≡ version
seen_learns first version worker s [] less low = absurd (omega (arith, less))
seen_learns first version zero s (d ∷ ds) less low =
    let u : State = after s (Learn first version) in
    let same : ((first + 0) == first) ≡ true = grind (arith, nat_tests) in
    let top : max (s.seen first) version ≡ version = omega (arith, low first) in
    seen_before (first + 0) (first + 1) version u ds (omega arith)
    ∙ (ap (λ (b : Bool). if b then max (s.seen first) version else s.seen (first + 0)) same ∙ top)
seen_learns first version (suc worker) s (d ∷ ds) less low =
    let u : State = after s (Learn first version) in
    let here : (first + 1) + worker ≡ first + suc worker = omega arith in
    subst (λ (r : ℕ). (state_from u (learns (first + 1) version ds)).seen r ≡ version) here
    (seen_learns (first + 1) version worker u ds (omega (arith, less)) (low_after s first version low))

-- what a reader has seen is no more than what is published at the end
one_low : (most : ℕ) (s : State) (e : Event) (events : List Event) (top : ℕ) → Runs most s (e ∷ events)
    → version_of (state_from s (e ∷ events)).batches ≤ top → ((reader : ℕ) → s.seen reader ≤ top) → (reader : ℕ)
    → (after s e).seen reader ≤ top
one_low most s (Accept load) events top runs reach low reader = low reader
one_low most s Refuse events top runs reach low reader = low reader
one_low most s Publish events top runs reach low reader = low reader
one_low most s (Enter other version) events top runs reach low reader =
    let far = version_grows (state_from s (Enter other version ∷ events)).batches s.batches
    (grows s (Enter other version ∷ events)) in
    let is : version ≡ version_of s.batches = runs.0 in
    elim (reader == other) as (λ b. (if b then version else s.seen reader) ≤ top) [
      | true ↦ omega (arith, far, is, reach)
      | false ↦ low reader
    ]
one_low most s (Learn other version) events top runs reach low reader =
    let far = version_grows (state_from s (Learn other version ∷ events)).batches s.batches
    (grows s (Learn other version ∷ events)) in
    let is : version ≡ version_of s.batches = runs.0 in
    elim (reader == other) as (λ b. (if b then max (s.seen other) version else s.seen reader) ≤ top) [
      | true ↦ omega (arith, far, is, reach, low other)
      | false ↦ low reader
    ]

pub all_low : (most : ℕ) (s : State) (events : List Event) (top : ℕ) → Runs most s events
    → version_of (state_from s events).batches ≤ top → ((reader : ℕ) → s.seen reader ≤ top) → (reader : ℕ)
    → (state_from s events).seen reader ≤ top
all_low most s [] top runs reach low reader = low reader
all_low most s (e ∷ events) top runs reach low reader =
    all_low most (after s e) events top runs.1 reach (one_low most s e events top runs reach low) reader

pub before_low : (start end : SeenValue) (before after : List Desk) (worker : ℕ)
    → AllZip (IsServed start end) before after → seen_by before worker ≤ version_of end.batches
before_low start end [] [] worker served = omega arith
before_low start end (d ∷ ds) (a ∷ as_) zero served =
    version_grows end.batches d.reader.batches served.0.later
before_low start end (d ∷ ds) (a ∷ as_) (suc worker) served = before_low start end ds as_ worker served.1
before_low start end [] (a ∷ as_) worker served = absurd served
before_low start end (d ∷ ds) [] worker served = absurd served

pub after_is : (start end : SeenValue) (before after : List Desk) (worker : ℕ)
    → AllZip (IsServed start end) before after → worker < length after → seen_by after worker ≡ version_of end.batches
after_is start end [] [] worker served less = absurd (omega (arith, less))
after_is start end (d ∷ ds) (a ∷ as_) zero served less = ap (λ (f : SeenValue). version_of f.batches) served.0.reader
after_is start end (d ∷ ds) (a ∷ as_) (suc worker) served less =
    after_is start end ds as_ worker served.1 (omega (arith, less))
after_is start end [] (a ∷ as_) worker served less = absurd served
after_is start end (d ∷ ds) [] worker served less = absurd served
