-- Histories event by event: what an event needs of the lists, and what is the same in two states.
use Rattle.std.proofs.Common.{◌≡◌, ℕ, ◌+◌, ◌≤◌, ◌<◌, ◌==◌, Bool, false, if◌then◌else◌, List, [], ◌∷◌, ◌++◌}
use Rattle.std.proofs.Common.{length, refl, sym, ap, ◌∙◌, subst, arith}
use Rattle.std.specs.Prelude.{⊤}
use Rattle.std.proofs.lemmas.Bool.Decides.{nat_tests}
use Rattle.std.proofs.lemmas.List.{append-nil}
use Rattle.live_versions.specs.Batches.{version_of, StartsWith, after_publish}
use Rattle.live_versions.specs.History.{Event, State, Accept, Refuse, Publish, Enter, Learn, after, state_from}
use Rattle.live_versions.specs.History.{MayFollow, IsLegalFrom}
use Rattle.live_loads.proofs.Joining.{begins_refl, begins_trans, begins-published}
use Rattle.desks.specs.ServedHistory.{entry_in, entries, without_entries}

-- ---- what an event needs if readers learn only what is published

abbrev pub May : ℕ → State → Event → Type 0
May most s (Accept load) = version_of s.batches + length s.pending < most
May most s Refuse = ⊤
May most s Publish = ⊤
May most s (Enter reader version) = version ≡ version_of s.batches
May most s (Learn reader version) = version ≡ version_of s.batches

abbrev pub Runs : ℕ → State → List Event → Type 0
Runs most s [] = ⊤
Runs most s (e ∷ events) = May most s e × Runs most (after s e) events

may_follow : (most : ℕ) (s : State) (first : List Event) (e : Event) → May most (state_from s first) e
    → MayFollow most s first e
may_follow most s first (Accept load) may = may
may_follow most s first Refuse may = tt
may_follow most s first Publish may = tt
may_follow most s first (Enter reader version) may = may
may_follow most s first (Learn reader version) may = (first, [], sym (append-nil first), may)

runs_at : (most : ℕ) (s : State) (first : List Event) (e : Event) (rest : List Event)
    → Runs most s (first ++ e ∷ rest) → May most (state_from s first) e
runs_at most s [] e rest runs = runs.0
runs_at most s (x ∷ first) e rest runs = runs_at most (after s x) first e rest runs.1

pub runs_legal : (most : ℕ) (s : State) (events : List Event) → Runs most s events → IsLegalFrom most s events
runs_legal most s events runs first e rest is =
    may_follow most s first e (runs_at most s first e rest (subst (λ (l : List Event). Runs most s l) is runs))

-- ---- two states with the same lists

pub record Level (s u : State) : Type 0 where
  pub batches : s.batches ≡ u.batches
  pub pending : s.pending ≡ u.pending

pub level_after : (s u : State) (e : Event) → Level s u → Level (after s e) (after u e)
level_after s u (Accept load) same = record { batches = same.batches; pending = ap (λ l. l ++ load ∷ []) same.pending }
level_after s u Refuse same = same
level_after s u Publish same = record {
  batches = λ i. after_publish (same.batches i) (same.pending i);
  pending = refl;
}
level_after s u (Enter reader version) same = record { batches = same.batches; pending = same.pending }
level_after s u (Learn reader version) same = record { batches = same.batches; pending = same.pending }

pub level_from : (s u : State) (events : List Event) → Level s u → Level (state_from s events) (state_from u events)
level_from s u [] same = same
level_from s u (e ∷ events) same = level_from (after s e) (after u e) events (level_after s u e same)

pub level_trans : (s u v : State) → Level s u → Level u v → Level s v
level_trans s u v a b = record { batches = a.batches ∙ b.batches; pending = a.pending ∙ b.pending }

may_level : (most : ℕ) (s u : State) (e : Event) → Level s u → May most s e → May most u e
may_level most s u (Accept load) same may =
    let n : version_of s.batches ≡ version_of u.batches = ap version_of same.batches in
    let m : length s.pending ≡ length u.pending = ap length same.pending in
    omega (arith, n, m, may)
may_level most s u Refuse same may = tt
may_level most s u Publish same may = tt
may_level most s u (Enter reader version) same may = may ∙ ap version_of same.batches
may_level most s u (Learn reader version) same may = may ∙ ap version_of same.batches

pub runs_level : (most : ℕ) (s u : State) (events : List Event) → Level s u → Runs most s events → Runs most u events
runs_level most s u [] same runs = tt
runs_level most s u (e ∷ events) same runs =
    (may_level most s u e same runs.0, runs_level most (after s e) (after u e) events (level_after s u e same) runs.1)

-- ---- the published batches grow

grows_after : (s : State) (e : Event) → StartsWith (after s e).batches s.batches
grows_after s (Accept load) = begins_refl s.batches
grows_after s Refuse = begins_refl s.batches
grows_after s Publish = begins-published s.batches s.batches s.pending (begins_refl s.batches)
grows_after s (Enter reader version) = begins_refl s.batches
grows_after s (Learn reader version) = begins_refl s.batches

pub grows : (s : State) (events : List Event) → StartsWith (state_from s events).batches s.batches
grows s [] = begins_refl s.batches
grows s (e ∷ events) = begins_trans (state_from (after s e) events).batches (after s e).batches s.batches
    (grows (after s e) events) (grows_after s e)

-- ---- whose entries the events are

abbrev pub IsBelow : ℕ → Event → Type 0
IsBelow count (Enter reader version) = reader < count
IsBelow count (Learn reader version) = ⊥
IsBelow count _ = ⊤

abbrev pub AreBelow : ℕ → List Event → Type 0
AreBelow count [] = ⊤
AreBelow count (e ∷ events) = IsBelow count e × AreBelow count events

pub below_more : (count : ℕ) (e : Event) → IsBelow count e → IsBelow (count + 1) e
below_more count (Accept load) is = tt
below_more count Refuse is = tt
below_more count Publish is = tt
below_more count (Enter reader version) is = omega (arith, is)
below_more count (Learn reader version) is = is

pub no_entry_in : (count reader : ℕ) (s : State) (e : Event) → IsBelow count e → count ≤ reader
    → entry_in reader s e ≡ []
no_entry_in count reader s (Accept load) is le = refl
no_entry_in count reader s Refuse is le = refl
no_entry_in count reader s Publish is le = refl
no_entry_in count reader s (Enter other version) is le =
    let no : (reader == other) ≡ false = grind (arith, nat_tests, is, le) in
    ap (λ (b : Bool). if b then record { batches = s.batches; seen = s.seen reader } ∷ [] else []) no
no_entry_in count reader s (Learn other version) is le = refl

pub no_entries : (count reader : ℕ) (s : State) (events : List Event) → AreBelow count events → count ≤ reader
    → entries reader s events ≡ []
no_entries count reader s [] below le = refl
no_entries count reader s (e ∷ events) below le =
    ap (λ l. l ++ entries reader (after s e) events) (no_entry_in count reader s e below.0 le)
    ∙ no_entries count reader (after s e) events below.1 le

-- ---- two states in which a reader meets the same

pub record Alike (reader : ℕ) (s u : State) : Type 0 where
  pub level : Level s u
  pub seen : s.seen reader ≡ u.seen reader

entry_alike : (reader : ℕ) (s u : State) (e : Event) → Alike reader s u → entry_in reader s e ≡ entry_in reader u e
entry_alike reader s u (Accept load) same = refl
entry_alike reader s u Refuse same = refl
entry_alike reader s u Publish same = refl
entry_alike reader s u (Enter other version) same =
    λ i. if reader == other then record { batches = same.level.batches i; seen = same.seen i } ∷ [] else []
entry_alike reader s u (Learn other version) same = refl

alike_after : (count reader : ℕ) (s u : State) (e : Event) → IsBelow count e → Alike reader s u
    → Alike reader (after s e) (after u e)
alike_after count reader s u (Accept load) is same =
    record { level = level_after s u (Accept load) same.level; seen = same.seen }
alike_after count reader s u Refuse is same = same
alike_after count reader s u Publish is same =
    record { level = level_after s u Publish same.level; seen = same.seen }
alike_after count reader s u (Enter other version) is same = record {
  level = level_after s u (Enter other version) same.level;
  seen = λ i. if reader == other then version else same.seen i;
}
alike_after count reader s u (Learn other version) is same = absurd is

pub entries_alike : (count reader : ℕ) (s u : State) (events : List Event) → AreBelow count events
    → Alike reader s u → entries reader s events ≡ entries reader u events
entries_alike count reader s u [] below same = refl
entries_alike count reader s u (e ∷ events) below same =
    let here = entry_alike reader s u e same in
    let rest = entries_alike count reader (after s e) (after u e) events below.1
    (alike_after count reader s u e below.0 same) in
    λ i. here i ++ rest i

-- ---- the events that are no entries

pub work_more : (e : Event) (a b : List Event) → without_entries a ≡ without_entries b
    → without_entries (e ∷ a) ≡ without_entries (e ∷ b)
work_more (Accept load) a b same = ap (λ l. Accept load ∷ l) same
work_more Refuse a b same = ap (λ l. Refuse ∷ l) same
work_more Publish a b same = ap (λ l. Publish ∷ l) same
work_more (Enter reader version) a b same = same
work_more (Learn reader version) a b same = same

-- before any reader has entered these are all
pub work_all : (events : List Event) → AreBelow 0 events → without_entries events ≡ events
work_all [] below = refl
work_all (Accept load ∷ events) below = ap (λ l. Accept load ∷ l) (work_all events below.1)
work_all (Refuse ∷ events) below = ap (λ l. Refuse ∷ l) (work_all events below.1)
work_all (Publish ∷ events) below = ap (λ l. Publish ∷ l) (work_all events below.1)
work_all (Enter reader version ∷ events) below = absurd (omega (arith, below.0))
work_all (Learn reader version ∷ events) below = absurd below.0
