-- A round, step by step.
use Rattle.catserve.proofs.Common.{◌≡◌, ◌∙◌, refl, sym, ap, ℕ, ◌≤◌, List, [], ◌∷◌, ◌++◌, append_assoc, arith, length}
use Rattle.catserve.proofs.Common.{length-append, None, Result, Ok, Err, IfOk, IfErr, OnErr, append-nil, flat_map_more}
use Rattle.catserve.proofs.Common.{AllZip, filter_map, flat_map, LoadValue, joined_loads, version_of, after_publish}
use Rattle.catserve.proofs.Common.{StoreValue}
use Rattle.catserve.proofs.Common.{RoundValue, version_line, Accepted, Refused, RefusedMo, Unnamed, IsOutcome}
use Rattle.catserve.proofs.Common.{outcome_line, accepted_load, job_source, AnswersInTurn, PlaysAll, LoadsOne, LoadsAll}
use Rattle.catserve.proofs.Common.{PlaysOne, HasPlayed, IsLineOf, load_of, load_source}
use Rattle.std.proofs.lemmas.List.Elements.{filter_map-append}
use Rattle.std.proofs.lemmas.List.Sums.{sum_by-append}
use Rattle.std.proofs.lemmas.Slice.Zip.{AllZip-long}
use Rattle.live_loads.specs.declared.fault.StoreFault.{StoreFault}
use Rattle.live_loads.specs.declared.fault.StoreFault.TheVariants as fault
use Rattle.desks.specs.Jobs as jobs
use Rattle.desks.specs.declared.job.Accepted as job
use Rattle.desks.specs.declared.job.Accepted.TheVariants as accepted
use Rattle.script_text.specs.ScriptLoads.{JobValue}
use Rattle.catserve.specs.Rounds.{Outcome}
use Rattle.live_loads.proofs.Joining.{joined-published}
use Rattle.catserve.proofs.Batching.{AllZip-snoc}

-- a source of a job, as that of a load
same_source : (source : jobs.SourceValue) → job_source (load_source source) ≡ source
same_source (jobs.Po text options) = refl
same_source (jobs.Mo bytes) = refl

-- the load is accepted, with the map that its source brings
accepts_one : (load : jobs.JobValue) (answer : job.Accepted) (s s' : StoreValue) {before after : List ℕ}
    → (is : jobs.IsAccepted s load answer s') → after ≡ before
    ++ outcome_line (Accepted (record { domain = load.domain; locale = load.locale; map = is.0 }) answer)
    → LoadsOne (load_of load) s.pending s'.pending before after
accepts_one load answer s s' (map, brings, adds) written = record {
  outcome = Accepted (record { domain = load.domain; locale = load.locale; map = map }) answer;
  is = (adds.names, rw (same_source load.source) brings, refl, refl);
  pending_are = ap (λ (x : StoreValue). x.pending) adds.after_is;
  written = written;
}

-- it isn't
refuses_one : {load : JobValue} (outcome : Outcome) (s s' : StoreValue) {before after : List ℕ}
    → IsOutcome load outcome → accepted_load outcome ≡ None → s' ≡ s → after ≡ before ++ outcome_line outcome
    → LoadsOne load s.pending s'.pending before after
refuses_one outcome s s' is none same written = record {
  outcome = outcome;
  is = is;
  pending_are = ap (λ (x : StoreValue). x.pending) same ∙ sym (rw none (append-nil s.pending));
  written = written;
}

-- it was made, and this is its line
pub loads_one : (load : jobs.JobValue) (made : Result job.Accepted StoreFault) (s s' : StoreValue)
    (before line : List ℕ) → IfOk made (λ answer. jobs.IsAccepted s load answer s') → IfErr made (jobs.IsRefused s load)
    → OnErr made (s' ≡ s) → IsLineOf made line → LoadsOne (load_of load) s.pending s'.pending before (before ++ line)
loads_one load (Ok (accepted.Po stats)) s s' before line is why same line_is =
    accepts_one load (accepted.Po stats) s s' is (ap (λ xs. before ++ xs) line_is)
loads_one load (Ok (accepted.Mo entries)) s s' before line is why same line_is =
    accepts_one load (accepted.Mo entries) s s' is (ap (λ xs. before ++ xs) line_is)
loads_one load (Err fault.BadName) s s' before line is why same line_is =
    refuses_one Unnamed s s' why refl same (ap (λ xs. before ++ xs) line_is)
loads_one load (Err (fault.Refused of)) s s' before line is why same line_is =
    refuses_one (Refused of) s s' (why.0, rw (same_source load.source) why.2) refl same
    (ap (λ xs. before ++ xs) line_is)
loads_one load (Err (fault.RefusedMo of)) s s' before line is why same line_is =
    refuses_one (RefusedMo of) s s' (why.0, rw (same_source load.source) why.2) refl same
    (ap (λ xs. before ++ xs) line_is)
loads_one load (Err _) s s' before line is why same line_is = absurd line_is

-- it leaves the limit as it was
pub most_kept : (load : jobs.JobValue) (made : Result job.Accepted StoreFault) (s s' : StoreValue)
    → IfOk made (λ answer. jobs.IsAccepted s load answer s') → OnErr made (s' ≡ s) → s'.most ≡ s.most
most_kept load (Ok answer) s s' (map, brings, adds) same = ap (λ (x : StoreValue). x.most) adds.after_is
most_kept load (Err why) s s' is same = ap (λ (x : StoreValue). x.most) same

pub loads_more : {loads : List JobValue} {load : JobValue} {p q r : List LoadValue} {a b c : List ℕ}
    → LoadsAll loads p q a b → LoadsOne load q r b c → LoadsAll (loads ++ load ∷ []) p r a c
loads_more {loads} {load} {p} {a} all one = record {
  outcomes = all.outcomes ++ one.outcome ∷ [];
  each = AllZip-snoc IsOutcome loads all.outcomes load one.outcome all.each one.is;
  pending_are = rw (one.pending_are, all.pending_are, filter_map-append, append_assoc) refl;
  written = rw (one.written, all.written) (flat_map_more outcome_line a all.outcomes one.outcome);
}

-- at most one load more is accepted for each
few_accepted : (outcomes : List Outcome) → length (filter_map accepted_load outcomes) ≤ length outcomes
few_accepted [] = omega arith
few_accepted (Accepted load answer ∷ outcomes) = omega (arith, few_accepted outcomes)
few_accepted (_ ∷ outcomes) = omega (arith, few_accepted outcomes)

pub few_outcomes : (loads : List JobValue) (outcomes : List Outcome) → AllZip IsOutcome loads outcomes
    → length (filter_map accepted_load outcomes) ≤ length loads
few_outcomes loads outcomes each = omega (arith, few_accepted outcomes, AllZip-long IsOutcome loads outcomes each)

-- the loads, the version and the answers of a round
pub plays_one : {workers : ℕ} {round : RoundValue} {was : StoreValue} (loaded : StoreValue) {now : StoreValue}
    (version : ℕ) {a b : List ℕ} (c : List ℕ) {d : List ℕ} (answers : List ℕ) → was.pending ≡ []
    → LoadsAll round.loads was.pending loaded.pending a b → loaded.seen ≡ was.seen
    → now.seen.batches ≡ after_publish loaded.seen.batches loaded.pending → now.pending ≡ [] → now.most ≡ was.most
    → version ≡ version_of now.seen.batches → c ≡ b ++ version_line version
    → AnswersInTurn (joined_loads now.seen.batches) round.questions 0 workers answers → d ≡ c ++ answers
    → PlaysOne workers round was now a d
plays_one loaded {now} version {a} {b} c answers none all front shown empty most is_version c_is answered
    d_is =
    let lines = flat_map outcome_line all.outcomes in
    let version_is = version_line (version_of now.seen.batches) in
    record {
      output = lines ++ version_is ++ answers;
      plays = record {
        outcomes = all.outcomes;
        loaded = all.each;
        after_is = rw (shown, joined-published, all.pending_are, none, front) refl;
        answers = answers;
        answered = answered;
        output_is = refl;
      };
      none_pending = empty;
      most = most;
      written = rw (d_is, c_is, is_version, all.written) (ap (λ xs. xs ++ answers) (append_assoc a lines version_is)
          ∙ append_assoc a (lines ++ version_is) answers);
    }

-- one more round
pub plays_more : {workers : ℕ} {rounds : List RoundValue} {round : RoundValue} {was now after : StoreValue}
    {output written : List ℕ} → HasPlayed workers rounds was now output
    → PlaysOne workers round now after output written → HasPlayed workers (rounds ++ round ∷ []) was after written
plays_more {rounds} {round} {now} {after} {output} played one = record {
  going = λ rest tail all. rw (append_assoc rounds (round ∷ []) rest)
      (rw (← (ap (λ xs. xs ++ tail) one.written ∙ append_assoc output one.output tail)) at
      (played.going (round ∷ rest) (one.output ++ tail) (
        joined_loads after.seen.batches,
        one.output,
        tail,
        one.plays,
        all,
        refl,
      )));
  none_pending = one.none_pending;
  few = omega (
    arith,
    played.few,
    sum_by-append (λ (r : RoundValue). length r.loads) rounds (round ∷ []),
    ap length one.plays.after_is,
    length-append (joined_loads now.seen.batches) (filter_map accepted_load one.plays.outcomes),
    few_outcomes round.loads one.plays.outcomes one.plays.loaded,
  );
  most = one.most ∙ played.most;
}

-- all rounds
pub plays_all : {workers : ℕ} {rounds : List RoundValue} {was now : StoreValue} {output : List ℕ}
    → HasPlayed workers rounds was now output → PlaysAll workers (joined_loads was.seen.batches) rounds output
plays_all {rounds} {output} played = rw (append-nil output) at (rw (append-nil rounds) at (played.going [] [] refl))

pub plays_none : {workers : ℕ} {was : StoreValue} → was.pending ≡ [] → HasPlayed workers [] was was []
plays_none none = record { going = λ rest tail all. all; none_pending = none; few = omega arith; most = refl }
