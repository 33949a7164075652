-- A service adds its jobs to what the publisher has done, and its entries to what each reader has.
use Rattle.life.proofs.Common.{AllZip, AllByRecursion, ◌≡◌, ℕ, ◌≤◌, max, take, List, [], ◌∷◌, ◌++◌, map, Ok, Err, refl}
use Rattle.life.proofs.Common.{sym, ap, ◌∙◌, subst, arith, ⊎_elim, LoadValue, QueryValue, joined_loads, version_of}
use Rattle.life.proofs.Common.{StartsWith, SeenValue, StoreValue, Event, State, Accept, Refuse, new_store, state_from}
use Rattle.life.proofs.Common.{state_of, begins_refl, JobValue, store_after_publish, AreJobs, version_grows}
use Rattle.life.proofs.Common.{first_loads}
use Rattle.life.proofs.Common.{Runs, Level, runs_level, level_from, grows, state_append, Act, Learns, IsEntry}
use Rattle.life.proofs.Common.{IsLearning, LeadsAll, NoneIsReaders, lists_of, HasActed}
use Rattle.std.specs.String.{string_bytes}
use Rattle.live_set.specs.Asks.{IsAnswer as HasText}
use Rattle.live_versions.specs.History.{Publish}
use Rattle.live_loads.specs.declared.fault.StoreFault.{StoreFault}
use Rattle.live_loads.specs.declared.fault.StoreFault.TheVariants as fault
use Rattle.desks.specs.declared.desk.Answer.{Answer}
use Rattle.desks.specs.declared.desk.Desk.{Desk}
use Rattle.desks.specs.Answers.{IsVersionedAnswer, Answered}
use Rattle.desks.specs.Jobs.{Outcome, Does, DoesAll}
use Rattle.desks.specs.Desks.{IsServed}
use Rattle.life.specs.Serving.{acts_of_entries, served_acts, with_served, seen_at, ServeKeeps}
use Rattle.life.proofs.Calls.{leads_append, work_append, learns_nothing, learns_all, either_begins}

-- ---- the publisher

abbrev pub state_at : (ℕ → ℕ) → StoreValue → State
state_at seen s = record { batches = s.seen.batches; pending = s.pending; seen = seen }

record Done (seen : ℕ → ℕ) (jobs : List JobValue) (outcomes : List Outcome) (t s : StoreValue) : Type 0 where
  pub events : List Event
  pub runs : Runs s.most (state_at seen s) events
  pub own : NoneIsReaders events
  pub level : Level (state_from (state_at seen s) events) (state_at seen t)
  pub most : t.most ≡ s.most
  pub jobs_are : AreJobs jobs outcomes events

unchanged : (s u : StoreValue) (job : JobValue) (why : StoreFault) → Does s job (Err why) u → s ≡ u
unchanged s u job fault.Memory does = absurd does
unchanged s u job why does = sym does.1

done_all : (seen : ℕ → ℕ) (jobs : List JobValue) (outcomes : List Outcome) (t s : StoreValue)
    → DoesAll s jobs outcomes t → Done seen jobs outcomes t s
done_all seen [] [] t s does = record {
  events = [];
  runs = tt;
  own = tt;
  level = record {
    batches = ap (λ (x : StoreValue). x.seen.batches) (sym does);
    pending = ap (λ (x : StoreValue). x.pending) (sym does);
  };
  most = ap (λ (x : StoreValue). x.most) does;
  jobs_are = tt;
}
done_all seen (job ∷ jobs) (Ok counts ∷ outcomes) t s (between, (loaded, (map, brings, adds), is), all) =
    let load : LoadValue = record { domain = job.domain; locale = job.locale; map = map } in
    let next : between ≡ store_after_publish (record s { pending = s.pending ++ load ∷ [] }) = is
    ∙ ap store_after_publish adds.after_is in
    let rest : Done seen jobs outcomes t (store_after_publish (record s { pending = s.pending ++ load ∷ [] })) = subst
    (λ (x : StoreValue). Done seen jobs outcomes t x) next (done_all seen jobs outcomes t between all) in
    record {
      events = Accept load ∷ Publish ∷ rest.events;
      runs = (adds.room, (tt, rest.runs));
      own = rest.own;
      level = rest.level;
      most = rest.most;
      jobs_are = ((refl, refl, brings), rest.jobs_are);
    }
done_all seen (job ∷ jobs) (Err why ∷ outcomes) t s (between, one, all) =
    let rest : Done seen jobs outcomes t s = subst (λ (x : StoreValue). Done seen jobs outcomes t x)
    (sym (unchanged s between job why one)) (done_all seen jobs outcomes t between all) in
    record {
      events = Refuse ∷ rest.events;
      runs = (tt, rest.runs);
      own = rest.own;
      level = rest.level;
      most = rest.most;
      jobs_are = rest.jobs_are;
    }
done_all seen _ _ t s does = absurd does

-- ---- a reader

-- the answer is out of an entry that begins with what was seen
record Entered (end cur : List (List LoadValue)) (query : QueryValue) (answer : Answer) : Type 0 where
  pub next : List (List LoadValue)
  pub begins : StartsWith end next
  pub is : IsEntry cur answer.version (record { query = query; text = string_bytes answer.text } ∷ []) next

entered_at : (end cur next : List (List LoadValue)) (query : QueryValue) (answer : Answer) → StartsWith end next
    → StartsWith next cur → answer.version ≡ version_of next
    → HasText (take answer.version (joined_loads end)) query (string_bytes answer.text) → Entered end cur query answer
entered_at end cur next query answer begins later is text =
    let loads : take answer.version (joined_loads end) ≡ joined_loads next = ap (λ n. take n (joined_loads end)) is
    ∙ first_loads end next begins in
    record {
      next = next;
      begins = begins;
      is = record {
        later = later;
        version_is = is;
        texts = (subst (λ (l : List LoadValue). HasText l query (string_bytes answer.text)) loads text, tt);
      };
    }

entered_one : (end cur : List (List LoadValue)) (query : QueryValue) (answer : Answer) → StartsWith end cur
    → version_of cur ≤ answer.version → IsVersionedAnswer end query answer → Entered end cur query answer
entered_one end cur query answer far le one =
    ⊎_elim
    (λ (later : StartsWith one.front cur). entered_at end cur one.front query answer one.begins later one.version_is
    one.text_is)
    (λ (behind : StartsWith cur one.front).
    let ge : version_of one.front ≤ version_of cur = version_grows cur one.front behind in
    entered_at end cur cur query answer far (begins_refl cur) (omega (arith, le, ge, one.version_is)) one.text_is)
    (either_begins end one.front cur one.begins far)

entered_all : (end cur : List (List LoadValue)) (least : ℕ) (queries : List QueryValue) (answers : List Answer)
    → StartsWith end cur → version_of cur ≤ least → Answered end least queries answers
    → (last : List (List LoadValue)) × StartsWith end last × LeadsAll cur (acts_of_entries queries answers) last
entered_all end cur least [] [] far le answered = (cur, far, refl)
entered_all end cur least (query ∷ queries) (answer ∷ answers) far le answered =
    let one = entered_one end cur query answer far (omega (arith, le, answered.0)) answered.1 in
    let rest = entered_all end one.next answer.version queries answers one.begins
    (omega (arith, one.is.version_is)) answered.2 in
    (rest.0, rest.1, (one.next, one.is, rest.2))
entered_all end cur least _ _ far le answered = absurd answered

-- the longer of both lists
record Longer (end cur told : List (List LoadValue)) : Type 0 where
  pub next : List (List LoadValue)
  pub begins : StartsWith end next
  pub low : version_of next ≤ max (version_of cur) (version_of told)
  pub is : IsLearning cur (version_of told) next

longer : (end cur told : List (List LoadValue)) → StartsWith end cur → StartsWith end told → Longer end cur told
longer end cur told far begins =
    ⊎_elim
    (λ (over : StartsWith cur told).
    record { next = cur; begins = far; low = omega arith; is = learns_nothing cur told over })
    (λ (over : StartsWith told cur).
    record { next = told; begins = begins; low = omega arith; is = learns_all cur told over })
    (either_begins end cur told far begins)

served_one : (start end : SeenValue) (acts : List Act) (desk done : Desk) → StartsWith end.batches start.batches
    → HasActed acts desk.reader.batches → IsServed start end desk done
    → HasActed (acts ++ served_acts start end desk done) done.reader.batches
served_one start end acts desk done begins acted served =
    let first = longer end.batches desk.reader.batches start.batches served.later begins in
    let asked = entered_all end.batches first.next
    (max (version_of desk.reader.batches) (version_of start.batches)) desk.queries.items done.answers.items first.begins
    first.low served.answered in
    let told : List Act = Learns (version_of end.batches) ∷ [] in
    let rest : LeadsAll first.next (acts_of_entries desk.queries.items done.answers.items ++ told) end.batches =
    leads_append
    first.next (acts_of_entries desk.queries.items done.answers.items) asked.0 told end.batches asked.2
    (end.batches, learns_all asked.0 end.batches asked.1, refl) in
    let all : HasActed (acts ++ served_acts start end desk done) end.batches = leads_append [] acts desk.reader.batches
    (served_acts start end desk done) end.batches acted (first.next, first.is, rest) in
    subst (λ (x : SeenValue). HasActed (acts ++ served_acts start end desk done) x.batches) (sym served.reader) all

pub served_all : (start end : SeenValue) (acts : List (List Act)) (before done : List Desk)
    → StartsWith end.batches start.batches → AllZip HasActed acts (seen_at before)
    → AllZip (IsServed start end) before done
    → AllZip HasActed (with_served start end acts before done) (seen_at done)
served_all start end [] [] [] begins acted served = tt
served_all start end (a ∷ more) (d ∷ ds) (x ∷ xs) begins acted served =
    (served_one start end a d x begins acted.0 served.0, served_all start end more ds xs begins acted.1 served.1)
served_all start end _ _ _ begins acted served = absurd (search)

pub settled_all : (start end : SeenValue) (before done : List Desk) → AllZip (IsServed start end) before done
    → AllByRecursion (StartsWith end.batches) (seen_at done)
settled_all start end [] [] served = tt
settled_all start end (d ∷ ds) (x ∷ xs) served = (
  subst (λ (r : SeenValue). StartsWith end.batches r.batches) (sym served.0.reader) (begins_refl end.batches),
  settled_all start end ds xs served.1,
)
settled_all start end _ _ served = absurd served

pub serve_keeps : ServeKeeps
serve_keeps s t jobs outcomes before done work acts reached does served =
    let w = reached.worked in
    let seen = (state_of work).seen in
    let jobs_done : Done seen jobs outcomes t (store_after_publish s) =
    done_all seen jobs outcomes t (store_after_publish s) does in
    let events : List Event = Publish ∷ jobs_done.events in
    let same : Level (state_at seen s) (state_of work) = record { batches = sym w.batches; pending = sym w.pending } in
    let runs : Runs s.most (state_at seen s) events = (tt, jobs_done.runs) in
    let split : state_of (work ++ events) ≡ state_from (state_of work) events = state_append new_store work events in
    let level = level_from (state_at seen s) (state_of work) events same in
    let begins : StartsWith t.seen.batches s.seen.batches = subst
    (λ (l : List (List LoadValue)). StartsWith l s.seen.batches) jobs_done.level.batches
    (grows (state_at seen s) events) in
    record {
      events = events;
      jobs_are = jobs_done.jobs_are;
      reached = record {
        worked = work_append work events (lists_of s) (lists_of t) w jobs_done.most jobs_done.own
            (runs_level s.most (state_at seen s) (state_of work) events same runs)
            (ap (λ (x : State). x.batches) split ∙ (sym level.batches ∙ jobs_done.level.batches))
            (ap (λ (x : State). x.pending) split ∙ (sym level.pending ∙ jobs_done.level.pending));
        acted = served_all s.seen t.seen acts before done begins reached.acted served;
      };
      settled = settled_all s.seen t.seen before done served;
    }
