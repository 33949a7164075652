-- A store that was served has one history: that of the publishing thread, into which each worker's answers are put.
use Rattle.std.specs.List.{AllZip}
use Rattle.std.proofs.Common.{◌≡◌, ℕ, zero, suc, ◌+◌, ◌<◌, ◌≤◌, ◌==◌, false, max, List, [], ◌∷◌, ◌++◌, Ok, Err}
use Rattle.std.proofs.Common.{sym, refl, ap, ◌∙◌, subst, arith}
use Rattle.std.proofs.lemmas.Bool.Decides.{nat_tests}
use Rattle.std.proofs.lemmas.List.{append-nil}
use Rattle.live_set.specs.Loads.{LoadValue}
use Rattle.live_versions.specs.Seen.{SeenValue}
use Rattle.live_versions.specs.Batches.{version_of}
use Rattle.live_versions.specs.Store.{StoreValue}
use Rattle.live_versions.specs.History.{Event, State, Accept, Refuse, Publish, state_from}
use Rattle.live_loads.specs.declared.fault.StoreFault.{StoreFault}
use Rattle.live_loads.specs.declared.fault.StoreFault.TheVariants as fault
use Rattle.desks.specs.declared.desk.Desk.{Desk}
use Rattle.desks.specs.Jobs.{JobValue, Outcome, Does, DoesAll, store_after_publish}
use Rattle.desks.specs.Desks.{IsServed}
use Rattle.desks.specs.ServedHistory.{seen_by, queries_of, answers_of, start_of, Entry, entries, AreAnswersOf}
use Rattle.desks.specs.ServedHistory.{without_entries, AreJobs, IsWork, HasOneHistory}
use Rattle.desks.proofs.Runs.{Runs, runs_legal, Level, level_trans, AreBelow, no_entries, work_all}
use Rattle.desks.proofs.Weaving.{AreLeft, Woven, weave}
use Rattle.desks.proofs.Learning.{learns, runs_append, state_append, entries_append, work_append, entries_learns}
use Rattle.desks.proofs.Learning.{work_learns, runs_learns, level_learns, seen_learns, all_low, before_low, after_is}

-- ---- the publishing thread

abbrev state_at : (ℕ → ℕ) → StoreValue → State
state_at seen s = record { batches = s.seen.batches; pending = s.pending; seen = seen }

record Done (seen : ℕ → ℕ) (jobs : List JobValue) (outcomes : List Outcome) (t s : StoreValue) : Type 0 where
  pub history : List Event
  pub runs : Runs s.most (state_at seen s) history
  pub below : AreBelow 0 history
  pub level : Level (state_from (state_at seen s) history) (state_at seen t)
  pub jobs_are : AreJobs jobs outcomes history

unchanged : (s u : StoreValue) (job : JobValue) (why : StoreFault) → Does s job (Err why) u → s ≡ u
unchanged s u job fault.Memory does = absurd does
unchanged s u job why does = sym does.1

done_all : (seen : ℕ → ℕ) (jobs : List JobValue) (outcomes : List Outcome) (t s : StoreValue)
    → DoesAll s jobs outcomes t → Done seen jobs outcomes t s
done_all seen [] [] t s does = record {
  history = [];
  runs = tt;
  below = tt;
  level = record {
    batches = ap (λ (x : StoreValue). x.seen.batches) (sym does);
    pending = ap (λ (x : StoreValue). x.pending) (sym does);
  };
  jobs_are = tt;
}
done_all seen [] (outcome ∷ outcomes) t s does = absurd does
done_all seen (job ∷ jobs) [] t s does = absurd does
done_all seen (job ∷ jobs) (Ok counts ∷ outcomes) t s (between, (loaded, (map, brings, adds), is), all) =
    let load : LoadValue = record { domain = job.domain; locale = job.locale; map = map } in
    let next : between ≡ store_after_publish (record s { pending = s.pending ++ load ∷ [] }) = is
    ∙ ap store_after_publish adds.after_is in
    let rest : Done seen jobs outcomes t (store_after_publish (record s { pending = s.pending ++ load ∷ [] })) = subst
    (λ (x : StoreValue). Done seen jobs outcomes t x) next (done_all seen jobs outcomes t between all) in
    record {
      history = Accept load ∷ Publish ∷ rest.history;
      runs = (adds.room, (tt, rest.runs));
      below = (tt, (tt, rest.below));
      level = rest.level;
      jobs_are = ((refl, refl, brings), rest.jobs_are);
    }
done_all seen (job ∷ jobs) (Err why ∷ outcomes) t s (between, one, all) =
    let rest : Done seen jobs outcomes t s = subst (λ (x : StoreValue). Done seen jobs outcomes t x)
    (sym (unchanged s between job why one)) (done_all seen jobs outcomes t between all) in
    record {
      history = Refuse ∷ rest.history;
      runs = (tt, rest.runs);
      below = (tt, rest.below);
      level = rest.level;
      jobs_are = rest.jobs_are;
    }

-- ---- the workers, one after another

record AllWoven (most first : ℕ) (s : State) (events : List Event) (before after : List Desk) : Type 0 where
  pub history : List Event
  pub runs : Runs most s history
  pub level : Level (state_from s history) (state_from s events)
  pub work : without_entries history ≡ without_entries events
  pub others : (reader : ℕ) → reader < first → entries reader s history ≡ entries reader s events
  pub mine : (reader worker : ℕ) → reader ≡ first + worker
      → AreAnswersOf (entries reader s history) (queries_of before worker) (answers_of after worker)

weave_all : (most first : ℕ) (s : State) (events : List Event) (start end : SeenValue) (before after : List Desk)
    → Runs most s events → AreBelow first events → end.batches ≡ (state_from s events).batches
    → s.batches ≡ start.batches
    → ((reader worker : ℕ) → reader ≡ first + worker → s.seen reader ≡ seen_by before worker)
    → AllZip (IsServed start end) before after → AllWoven most first s events before after
weave_all most first s events start end [] [] runs below is begins seen served = record {
  history = events;
  runs = runs;
  level = record { batches = refl; pending = refl };
  work = refl;
  others = λ reader less. refl;
  mine = λ reader worker this.
      subst (λ l. AreAnswersOf l [] []) (sym (no_entries first reader s events below (omega (arith, this)))) tt;
}
weave_all most first s events start end [] (after ∷ afters) runs below is begins seen served = absurd served
weave_all most first s events start end (desk ∷ desks) [] runs below is begins seen served = absurd served
weave_all most first s events start end (desk ∷ desks) (after ∷ afters) runs below is begins seen served =
    let had : s.seen first ≡ version_of desk.reader.batches = seen first 0 (omega arith) in
    let from : version_of s.batches ≡ version_of start.batches = ap version_of begins in
    let left : AreLeft first end.batches s desk.queries.items after.answers.items = record {
      least = max (version_of desk.reader.batches) (version_of start.batches);
      reached = omega (arith, from);
      seen = omega (arith, had);
      answered = served.0.answered;
    } in
    let one : Woven most first s events desk.queries.items after.answers.items = weave most first s events
    desk.queries.items after.answers.items end.batches runs below is left in
    let seen_next : (reader worker : ℕ) → reader ≡ (first + 1) + worker → s.seen reader ≡ seen_by desks worker =
    λ reader worker this. seen reader (suc worker) (omega (arith, this)) in
    let rest : AllWoven most (first + 1) s one.history desks afters = weave_all most (first + 1) s one.history start end
    desks afters one.runs one.below (is ∙ sym one.level.batches) begins seen_next served.1 in
    record {
      history = rest.history;
      runs = rest.runs;
      level = level_trans (state_from s rest.history) (state_from s one.history) (state_from s events) rest.level
          one.level;
      work = work_of one rest;
      others = λ reader less. others_of one rest reader less;
      mine = λ reader worker this. mine_of one rest reader worker this;
    } where
      work_of : (one : Woven most first s events desk.queries.items after.answers.items)
          (rest : AllWoven most (first + 1) s one.history desks afters)
          → without_entries rest.history ≡ without_entries events
      work_of one rest = rest.work ∙ one.work

      others_of : (one : Woven most first s events desk.queries.items after.answers.items)
          (rest : AllWoven most (first + 1) s one.history desks afters) (reader : ℕ) → reader < first
          → entries reader s rest.history ≡ entries reader s events
      others_of one rest reader less =
          let no : (reader == first) ≡ false = grind (arith, nat_tests, less) in
          rest.others reader (omega (arith, less)) ∙ one.others reader no

      mine_of : (one : Woven most first s events desk.queries.items after.answers.items)
          (rest : AllWoven most (first + 1) s one.history desks afters) (reader worker : ℕ) → reader ≡ first + worker
          → AreAnswersOf (entries reader s rest.history) (queries_of (desk ∷ desks) worker)
          (answers_of (after ∷ afters) worker)
      mine_of one rest reader zero this =
          let same : reader ≡ first = omega (arith, this) in
          let met : entries reader s rest.history ≡ entries first s one.history = rest.others reader
          (omega (arith, this)) ∙ ap (λ (r : ℕ). entries r s one.history) same in
          subst (λ (l : List Entry). AreAnswersOf l desk.queries.items after.answers.items) (sym met) one.mine
      mine_of one rest reader (suc worker) this = rest.mine reader worker (omega (arith, this))

-- ---- the law

work_is : (jobs : List JobValue) (outcomes : List Outcome) (events : List Event) → AreBelow 0 events
    → AreJobs jobs outcomes events → IsWork jobs outcomes (without_entries (Publish ∷ events))
work_is jobs outcomes events below are =
    subst (λ (l : List Event). AreJobs jobs outcomes l) (sym (work_all events below)) are

pub one_history : HasOneHistory
one_history s t jobs outcomes before after done served =
    let start = start_of s before in
    let work : Done (seen_by before) jobs outcomes t (store_after_publish s) = done_all (seen_by before) jobs outcomes t
    (store_after_publish s) done in
    let events = Publish ∷ work.history in
    let runs : Runs s.most start events = (tt, work.runs) in
    let below : AreBelow 0 events = (tt, work.below) in
    let seen : (reader worker : ℕ) → reader ≡ 0 + worker → start.seen reader ≡ seen_by before worker =
    λ reader worker this. ap (seen_by before) (omega (arith, this)) in
    let all : AllWoven s.most 0 start events before after = weave_all s.most 0 start events s.seen t.seen before after
    runs below (sym work.level.batches) refl seen served in
    let h : List Event = all.history in
    let end : ℕ = version_of t.seen.batches in
    let made : State = state_from start h in
    let told : List Event = learns 0 end after in
    let batches : made.batches ≡ t.seen.batches = all.level.batches ∙ work.level.batches in
    let here : end ≡ version_of made.batches = ap version_of (sym batches) in
    let same : Level made (state_from made told) = level_learns 0 end made after in
    let split : state_from start (h ++ told) ≡ state_from made told = state_append start h told in
    let low : (reader : ℕ) → made.seen reader ≤ end = all_low s.most start h end all.runs (omega (arith, here))
    (λ reader. before_low s.seen t.seen before after reader served) in (
      h ++ told,
      record {
        legal = runs_legal s.most start (h ++ told)
            (runs_append s.most start h told all.runs (runs_learns s.most 0 end made after here));
        batches = ap (λ (x : State). x.batches) split ∙ (sym same.batches ∙ batches);
        pending = ap (λ (x : State). x.pending) split
            ∙ (sym same.pending ∙ (all.level.pending ∙ work.level.pending));
        work = subst (λ (l : List Event). IsWork jobs outcomes l)
            (sym (work_append h told (work_learns 0 end after) ∙ all.work))
            (work_is jobs outcomes work.history work.below work.jobs_are);
        answers = λ worker. subst
            (λ (l : List Entry). AreAnswersOf l (queries_of before worker) (answers_of after worker))
            (sym (entries_append worker start h told ∙ (ap (λ (l : List Entry). entries worker start h ++ l)
            (entries_learns worker 0 end made after) ∙ append-nil (entries worker start h))))
            (all.mine worker worker (omega arith));
        seen = λ worker less.
            let from : 0 + worker ≡ worker = omega arith in
            ap (λ (x : State). x.seen worker) split
            ∙ (subst (λ (r : ℕ). (state_from made told).seen r ≡ end) from
            (seen_learns 0 end worker made after less low)
            ∙ sym (after_is s.seen t.seen before after worker served less));
      },
    )
