-- The texts of a reader's look-ups, at the steps of a history.
use Rattle.c_handles.proofs.Common.{◌≡◌, ℕ, ◌+◌, ◌==◌, Bool, if◌then◌else◌, List, [], ◌∷◌, ◌++◌, map, length, sym, ap}
use Rattle.c_handles.proofs.Common.{◌∙◌, subst, arith, length-append, ⊎_elim, ⊤, LoadValue, joined_loads, version_of}
use Rattle.c_handles.proofs.Common.{StartsWith, joined-append, begins_trans, Event, State, Enter, Learn, after}
use Rattle.c_handles.proofs.Common.{state_from, ReaderAct, Entered, Told, AreAnswered, IsStepOf, by_test, either_begins}
use Rattle.std.specs.List.{AllZip}
use Rattle.std.proofs.lemmas.List.{append-nil}
use Rattle.desks.proofs.Runs.{grows}
use Rattle.life.specs.Life.{Met, Entry, Notice, met_in, steps_of, IsStepOf as IsLifeStep}
use Rattle.c_handles.proofs.Entries.{ReaderLeads, ReaderLeadsAll, leads_all_begins, plain}

-- ---- two beginnings with the same number of loads have the same loads

no_more : (a b : List (List LoadValue)) → StartsWith a b → version_of a ≡ version_of b → joined_loads a ≡ joined_loads b
no_more a b (rest, is) same =
    let all : joined_loads a ≡ joined_loads b ++ joined_loads rest = ap joined_loads is ∙ joined-append b rest in
    let n : length (joined_loads a) ≡ length (joined_loads b) + length (joined_loads rest) =
    ap (length {A = LoadValue}) all
    ∙ length-append (joined_loads b) (joined_loads rest) in
    all ∙ none (joined_loads b) (joined_loads rest) (omega (arith, n, same)) where
      none : (x y : List LoadValue) → length y ≡ 0 → x ++ y ≡ x
      none x [] zero_ = append-nil x
      none x (l ∷ ls) zero_ = absurd (omega (arith, zero_))

same_loads : (fin a b : List (List LoadValue)) → StartsWith fin a → StartsWith fin b → version_of a ≡ version_of b
    → joined_loads a ≡ joined_loads b
same_loads fin a b p q same =
    ⊎_elim (λ (longer : StartsWith a b). no_more a b longer same)
    (λ (shorter : StartsWith b a). sym (no_more b a shorter (sym same))) (either_begins fin a b p q)

-- ---- what is published at a step is a beginning of what is published at the end

abbrev pub IsWithin : List (List LoadValue) → Met → Type 0
IsWithin fin (Entry batches seen) = StartsWith fin batches
IsWithin fin (Notice version) = ⊤

abbrev pub AreWithin : List (List LoadValue) → List Met → Type 0
AreWithin fin [] = ⊤
AreWithin fin (m ∷ ms) = IsWithin fin m × AreWithin fin ms

one_within : (fin : List (List LoadValue)) (t : Bool) (m : Met) (ms : List Met) → IsWithin fin m → AreWithin fin ms
    → AreWithin fin ((if t then m ∷ [] else []) ++ ms)
one_within fin t m ms is all =
    by_test t
    (λ yes_. subst (λ (b : Bool). AreWithin fin ((if b then m ∷ [] else []) ++ ms)) (sym yes_) (is, all))
    (λ no_. subst (λ (b : Bool). AreWithin fin ((if b then m ∷ [] else []) ++ ms)) (sym no_) all)

met_within : (reader : ℕ) (s : State) (e : Event) (fin : List (List LoadValue)) (ms : List Met)
    → StartsWith fin s.batches → AreWithin fin ms → AreWithin fin (met_in reader s e ++ ms)
met_within reader s (Enter other version) fin ms is all =
    one_within fin (reader == other) (Entry s.batches (s.seen reader)) ms is all
met_within reader s (Learn other version) fin ms is all = one_within fin (reader == other) (Notice version) ms tt all
met_within reader s _ fin ms is all = all

pub all_within : (reader : ℕ) (s : State) (events : List Event)
    → AreWithin (state_from s events).batches (steps_of reader s events)
all_within reader s [] = tt
all_within reader s (e ∷ events) =
    met_within reader s e (state_from (after s e) events).batches (steps_of reader (after s e) events)
    (grows s (e ∷ events))
    (all_within reader (after s e) events)

-- ---- the acts with their texts

step_with_texts : (fin a : List (List LoadValue)) (act : ReaderAct) (next : List (List LoadValue)) (m : Met)
    → ReaderLeads a act next → StartsWith fin next → IsWithin fin m → IsLifeStep (plain act) m → IsStepOf act m
step_with_texts fin a (Entered version looks) next (Entry batches seen) leads far within (here, no_less, none) =
    let same : joined_loads next ≡ joined_loads batches =
    same_loads fin next batches far within (sym leads.version_is ∙ here) in
    (here, no_less, subst (λ (l : List LoadValue). AreAnswered l looks) same leads.answered)
step_with_texts fin a (Told version) next (Notice told) leads far within is = is
step_with_texts fin a _ next _ leads far within is = absurd is

pub with_texts : (fin a : List (List LoadValue)) (acts : List ReaderAct) (end : List (List LoadValue)) (ms : List Met)
    → ReaderLeadsAll a acts end → StartsWith fin end → AreWithin fin ms → AllZip IsLifeStep (map plain acts) ms
    → AllZip IsStepOf acts ms
with_texts fin a [] end [] leads far within steps = tt
with_texts fin a (act ∷ acts) end (m ∷ ms) (next, one, rest) far within steps = (
  step_with_texts fin a act next m one
      (begins_trans fin end next far (leads_all_begins next acts end rest)) within.0 steps.0,
  with_texts fin next acts end ms rest far within.1 steps.1,
)
with_texts fin a _ end _ leads far within steps = absurd steps
