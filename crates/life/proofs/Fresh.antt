-- The life of a store from its opening on.
use Rattle.life.proofs.Common.{AllZip, AllByRecursion, ◌≡◌, ℕ, List, [], ◌∷◌, ◌++◌, map, take, length, refl, sym, ap}
use Rattle.life.proofs.Common.{◌∙◌, subst, version_of, SeenValue, StoreValue, Event, new_store, IsLegal, Client, Act}
use Rattle.life.proofs.Common.{AreReplies, run_acts, seen_by_all, IsStepOf, acts_of, steps_of, AreCommands, HasActed}
use Rattle.life.proofs.Common.{with_run, Lives, HasLife, IsRun, client_acts}
use Rattle.std.proofs.lemmas.Slice.Zip.{AllZip-long}
use Rattle.life.specs.declared.command.Command.{Command}
use Rattle.life.specs.declared.command.Outcome.{Outcome}
use Rattle.life.specs.Clients.{IsServed}
use Rattle.life.proofs.Calls.{worked_none}

-- the acts of readers that have done nothing
abbrev pub no_acts : List Client → List (List Act)
no_acts clients = map (λ c. []) clients

acted_none : (seen : SeenValue) (clients : List Client) → seen.batches ≡ []
    → AllByRecursion (λ c. c.reader ≡ seen) clients → AllZip HasActed (no_acts clients) (seen_by_all clients)
acted_none seen [] none all = tt
acted_none seen (c ∷ cs) none all =
    (ap (λ (x : SeenValue). x.batches) all.0 ∙ none, acted_none seen cs none all.1)

fresh_acts : (start end : SeenValue) (before done : List Client) → start.batches ≡ []
    → AllZip (IsServed start end) before done
    → with_run (version_of start.batches) (version_of end.batches) (no_acts before) done
    ≡ client_acts (version_of end.batches) done
fresh_acts start end [] [] none served = refl
fresh_acts start end (d ∷ ds) (x ∷ xs) none served =
    let rest = fresh_acts start end ds xs none served.1 in
    λ i. run_acts (version_of (none i)) (version_of end.batches) x ∷ rest i
fresh_acts start end _ _ none served = absurd served

each_answered : (start end : SeenValue) (before done : List Client) → AllZip (IsServed start end) before done
    → AllByRecursion (λ c. AreReplies c.requests.items c.replies.items) done
each_answered start end [] [] served = tt
each_answered start end (d ∷ ds) (x ∷ xs) served = (served.0.each, each_answered start end ds xs served.1)
each_answered start end _ _ served = absurd served

same_requests : (start end : SeenValue) (before done : List Client) → AllZip (IsServed start end) before done
    → map (λ (c : Client). c.requests) done ≡ map (λ (c : Client). c.requests) before
same_requests start end [] [] served = refl
same_requests start end (d ∷ ds) (x ∷ xs) served =
    let same = served.0.requests in
    let rest = same_requests start end ds xs served.1 in
    λ i. same i ∷ rest i
same_requests start end _ _ served = absurd served

-- what a slice of all clients leaves in their vector
take_front : (xs ys : List Client) → take (length xs) (xs ++ ys) ≡ xs
take_front [] ys = refl
take_front (x ∷ xs) ys = ap (λ (l : List Client). x ∷ l) (take_front xs ys)

all_taken : (start end : SeenValue) (len : ℕ) (before done rest : List Client)
    → AllZip (IsServed start end) before done → len ≡ length before → take len (done ++ rest) ≡ done
all_taken start end len before done rest served is =
    let same : length done ≡ length before = AllZip-long (IsServed start end) before done served in
    ap (λ (n : ℕ). take n (done ++ rest)) (is ∙ sym same) ∙ take_front done rest

pub all_requests : (start end : SeenValue) (len : ℕ) (before slice done rest : List Client) → slice ≡ before
    → AllZip (IsServed start end) slice done → len ≡ length before
    → map (λ (c : Client). c.requests) (take len (done ++ rest)) ≡ map (λ (c : Client). c.requests) before
all_requests start end len before slice done rest same served is =
    let all : AllZip (IsServed start end) before done =
    subst (λ (l : List Client). AllZip (IsServed start end) l done) same served in
    ap (map (λ (c : Client). c.requests)) (all_taken start end len before done rest all is)
    ∙ same_requests start end before done all

-- ---- a run from the opening on

pub fresh_run : (most : ℕ) (s t : StoreValue) (len : ℕ) (commands : List Command) (outcomes : List Outcome)
    (before slice done rest : List Client) → (s.seen.batches ≡ []) × (s.pending ≡ []) → s.most ≡ most
    → AllByRecursion (λ c. c.reader ≡ s.seen) before → slice ≡ before → HasLife s t commands outcomes slice done
    → AllZip (IsServed s.seen t.seen) slice done → len ≡ length before
    → IsRun most commands outcomes (take len (done ++ rest))
fresh_run most s t len commands outcomes before slice done rest empty is all same life served len_is =
    let served : AllZip (IsServed s.seen t.seen) before done =
    subst (λ (l : List Client). AllZip (IsServed s.seen t.seen) l done) same served in
    let life : HasLife s t commands outcomes before done =
    subst (λ (l : List Client). HasLife s t commands outcomes l done) same life in
    let lives : Lives s t commands outcomes done [] (no_acts before) = life [] (no_acts before)
    (record { worked = worked_none s empty.0 empty.1; acted = acted_none s.seen before empty.0 all }) in
    subst (λ (l : List Client). IsRun most commands outcomes l)
    (sym (all_taken s.seen t.seen len before done rest served len_is)) (record {
      history = lives.history;
      legal = subst (λ (n : ℕ). IsLegal n lives.history) (lives.most ∙ is) lives.life.legal;
      commands_are = subst (λ (l : List Event). AreCommands most new_store commands outcomes l) (sym lives.life.work_is)
          (subst (λ (n : ℕ). AreCommands n new_store commands outcomes lives.events) is lives.commands_are);
      each = each_answered s.seen t.seen before done served;
      end = version_of t.seen.batches;
      end_is = ap version_of (sym lives.life.batches);
      answers = λ reader. subst (λ (l : List (List Act)). AllZip IsStepOf (acts_of l reader)
          (steps_of reader new_store lives.history)) (fresh_acts s.seen t.seen before done empty.0 served)
          (lives.life.steps reader);
    })
