-- A store whose readers have settled has one history: the publisher's work, into which each reader's acts are put.
use Rattle.life.proofs.Common.{AllZip, AllByRecursion, ◌≡◌, ℕ, zero, suc, ◌+◌, ◌<◌, ◌==◌, false, List, [], ◌∷◌, refl}
use Rattle.life.proofs.Common.{sym, ap, ◌∙◌, subst, arith, nat_tests, LoadValue, version_of, StartsWith, Event, Accept}
use Rattle.life.proofs.Common.{Refuse, new_store, state_of, without_entries, Level, level_trans, work_all, Act}
use Rattle.life.proofs.Common.{NoneIsReaders, HasActed, Met, steps_of, IsStepOf, acts_of, seen_of}
use Rattle.live_versions.specs.History.{Publish}
use Rattle.life.specs.Laws.{HasOneLife}
use Rattle.life.proofs.Calls.{own_below, own_runs}
use Rattle.life.proofs.Histories.{Goes, goes_legal, runs_go, AreUnder, not_met, seen_from}
use Rattle.life.proofs.Weaving.{Woven, weave, left_here}

own_under : (events : List Event) → NoneIsReaders events → AreUnder 0 events
own_under [] own = tt
own_under (Accept load ∷ events) own = (tt, own_under events own)
own_under (Refuse ∷ events) own = (tt, own_under events own)
own_under (Publish ∷ events) own = (tt, own_under events own)
own_under _ own = absurd own

record AllWoven (most first : ℕ) (events : List Event) (acts : List (List Act))
    (readers : List (List (List LoadValue))) : Type 0 where
  pub history : List Event
  pub goes : Goes most new_store history
  pub level : Level (state_of history) (state_of events)
  pub work : without_entries history ≡ without_entries events
  pub others : (reader : ℕ) → reader < first → steps_of reader new_store history ≡ steps_of reader new_store events
  pub others_seen : (reader : ℕ) → reader < first → (state_of history).seen reader ≡ (state_of events).seen reader
  pub mine : (reader worker : ℕ) → reader ≡ first + worker
      → AllZip IsStepOf (acts_of acts worker) (steps_of reader new_store history)
  pub seen : (reader worker : ℕ) → reader ≡ first + worker → (state_of history).seen reader ≡ seen_of readers worker

-- one reader's acts were put in, and then those of the rest
module _ {most first : ℕ} {events : List Event} {a : List Act} {more : List (List Act)}
    {rs : List (List (List LoadValue))} (r : List (List LoadValue))
    (one : Woven most first new_store events a (version_of r)) (rest : AllWoven most (first + 1) one.history more rs)
  where
    work_of : without_entries rest.history ≡ without_entries events
    work_of = rest.work ∙ one.work

    others_of : (reader : ℕ) → reader < first → steps_of reader new_store rest.history
        ≡ steps_of reader new_store events
    others_of reader less =
        let no : (reader == first) ≡ false = grind (arith, nat_tests, less) in
        rest.others reader (omega (arith, less)) ∙ one.others reader no

    others_seen_of : (reader : ℕ) → reader < first
        → (state_of rest.history).seen reader ≡ (state_of events).seen reader
    others_seen_of reader less =
        let no : (reader == first) ≡ false = grind (arith, nat_tests, less) in
        rest.others_seen reader (omega (arith, less)) ∙ one.others_seen reader no

    mine_of : (reader worker : ℕ) → reader ≡ first + worker
        → AllZip IsStepOf (acts_of (a ∷ more) worker) (steps_of reader new_store rest.history)
    mine_of reader zero this =
        let same : reader ≡ first = omega (arith, this) in
        let there : steps_of reader new_store rest.history ≡ steps_of first new_store one.history = rest.others reader
        (omega (arith, this)) ∙ ap (λ (k : ℕ). steps_of k new_store one.history) same in
        subst (λ (l : List Met). AllZip IsStepOf a l) (sym there) one.mine
    mine_of reader (suc worker) this = rest.mine reader worker (omega (arith, this))

    seen_is : (reader worker : ℕ) → reader ≡ first + worker
        → (state_of rest.history).seen reader ≡ seen_of (r ∷ rs) worker
    seen_is reader zero this =
        let same : reader ≡ first = omega (arith, this) in
        rest.others_seen reader (omega (arith, this)) ∙ (ap (λ (k : ℕ). (state_of one.history).seen k) same
        ∙ one.seen)
    seen_is reader (suc worker) this = rest.seen reader worker (omega (arith, this))

weave_all : (most first : ℕ) (events : List Event) (fin : List (List LoadValue)) (acts : List (List Act))
    (readers : List (List (List LoadValue))) → Goes most new_store events → AreUnder first events
    → fin ≡ (state_of events).batches → AllZip HasActed acts readers → AllByRecursion (StartsWith fin) readers
    → AllWoven most first events acts readers
weave_all most first events fin [] [] goes under is acted settled = record {
  history = events;
  goes = goes;
  level = record { batches = refl; pending = refl };
  work = refl;
  others = λ reader less. refl;
  others_seen = λ reader less. refl;
  mine = λ reader worker this. subst (λ (l : List Met). AllZip IsStepOf [] l)
      (sym (not_met first reader new_store events under (omega (arith, this)))) tt;
  seen = λ reader worker this. seen_from first reader new_store events under (omega (arith, this));
}
weave_all most first events fin (a ∷ more) (r ∷ rs) goes under is acted settled =
    let one : Woven most first new_store events a (version_of r) = weave most first new_store events a r fin
    goes under is settled.0 (left_here [] [] a r refl acted.0) in
    let rest : AllWoven most (first + 1) one.history more rs = weave_all most (first + 1) one.history fin more rs
    one.goes one.under (is ∙ sym one.level.batches) acted.1 settled.1 in
    record {
      history = rest.history;
      goes = rest.goes;
      level = level_trans (state_of rest.history) (state_of one.history) (state_of events) rest.level one.level;
      work = work_of r one rest;
      others = others_of r one rest;
      others_seen = others_seen_of r one rest;
      mine = mine_of r one rest;
      seen = seen_is r one rest;
    }
weave_all most first events fin _ _ goes under is acted settled = absurd acted

pub one_life : HasOneLife
one_life s readers work acts reached settled =
    let w = reached.worked in
    let all : AllWoven s.most 0 work acts readers = weave_all s.most 0 work s.batches acts readers
    (runs_go s.most new_store work (own_runs s.most work w.legal w.own)) (own_under work w.own) (sym w.batches)
    reached.acted settled in (
      all.history,
      record {
        legal = goes_legal s.most all.history all.goes;
        batches = all.level.batches ∙ w.batches;
        pending = all.level.pending ∙ w.pending;
        seen = λ reader. all.seen reader reader (omega arith);
        work_is = all.work ∙ work_all work (own_below work w.own);
        steps = λ reader. all.mine reader reader (omega arith);
      },
    )
