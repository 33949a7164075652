-- Commands in turn, and what a run adds to a store's life.
use Rattle.life.proofs.Common.{AllZip, get_or, ◌≡◌, ℕ, ◌+◌, ◌<◌, List, [], ◌∷◌, ◌++◌, take, drop, length, refl, sym, ap}
use Rattle.life.proofs.Common.{◌∙◌, subst, take_more, take-append-drop, LoadValue, version_of, SeenValue, StoreValue}
use Rattle.life.proofs.Common.{Event, State, Accept, Refuse, new_store, state_from, state_of, JobValue, IsRefused}
use Rattle.life.proofs.Common.{store_after_publish, Runs, Level, runs_level, level_from, state_append, Client}
use Rattle.life.proofs.Common.{NoneIsReaders}
use Rattle.life.proofs.Common.{lists_of, HasWorked, Reached, StopsAfter, store_in, AreCommands, seen_by_all, acts_after}
use Rattle.life.proofs.Common.{HasLife, StopKeeps}
use Rattle.live_loads.specs.declared.fault.StoreFault.{StoreFault}
use Rattle.live_loads.specs.declared.fault.StoreFault.TheVariants as fault
use Rattle.live_versions.specs.History.{Publish as Publishes}
use Rattle.life.specs.declared.command.Command.{Command}
use Rattle.life.specs.declared.command.Command.TheVariants.{Load, Publish}
use Rattle.life.specs.declared.command.Outcome.{Outcome}
use Rattle.life.specs.declared.command.Outcome.TheVariants.{Loaded, Refused, Published, Unpublished}
use Rattle.life.specs.PublisherWork.{Does, DoesAll}
use Rattle.life.specs.Clients.{IsServed}
use Rattle.life.proofs.Calls.{work_append}
use Rattle.life.proofs.Clients.{acted_all, settled_all}
use Rattle.life.proofs.Serving.{state_at}
use Rattle.life.proofs.OneLife.{one_life}

pub does_more : (s u t : StoreValue) (commands : List Command) (command : Command) (outcomes : List Outcome)
    (outcome : Outcome) → DoesAll s commands outcomes u → Does u command outcome t
    → DoesAll s (commands ++ command ∷ []) (outcomes ++ outcome ∷ []) t
does_more s u t [] command [] outcome all one =
    (t, subst (λ (x : StoreValue). Does x command outcome t) all one, refl)
does_more s u t (c ∷ cs) command (o ∷ os) outcome (between, first, rest) one =
    (between, first, does_more between u t cs command os outcome rest one)
does_more s u t _ command _ outcome all one = absurd all

-- the next command is done
pub does_next : (s u t : StoreValue) (commands : List Command) (i : ℕ) (command : Command)
    (outcomes pushed : List Outcome) (outcome : Outcome) → i < length commands
    → command ≡ get_or commands i command → DoesAll s (take i commands) outcomes u → Does u command outcome t
    → pushed ≡ outcomes ++ outcome ∷ [] → DoesAll s (take (i + 1) commands) pushed t
does_next s u t commands i command outcomes pushed outcome below is all one items =
    let taken : take (i + 1) commands ≡ take i commands ++ command ∷ [] = take_more commands i command below
    ∙ ap (λ x. take i commands ++ x ∷ []) (sym is) in
    subst (λ (l : List Outcome). DoesAll s (take (i + 1) commands) l t) (sym items)
    (subst (λ (l : List Command). DoesAll s l (outcomes ++ outcome ∷ []) t) (sym taken)
    (does_more s u t (take i commands) command outcomes outcome all one))

-- some first commands are done
pub stops_at : (s t : StoreValue) (commands : List Command) (i : ℕ) (outcomes : List Outcome)
    → DoesAll s (take i commands) outcomes t → StopsAfter s commands t
stops_at s t commands i outcomes done = record {
  first = take i commands;
  rest = drop i commands;
  split = sym (take-append-drop i commands);
  outcomes = outcomes;
  done = done;
}

pub none_done : (s t : StoreValue) (commands : List Command) → t ≡ s → StopsAfter s commands t
none_done s t commands same =
    record { first = []; rest = commands; split = refl; outcomes = []; done = same }

-- a refusal is one in every store of this state
any_store : (most : ℕ) (s : State) (store other : SeenValue) (job : JobValue) (why : StoreFault)
    → IsRefused (store_in most s store) job why → IsRefused (store_in most s other) job why
any_store most s store other job fault.BadName is = is
any_store most s store other job _ is = is

record Done (seen : ℕ → ℕ) (commands : List Command) (outcomes : List Outcome) (t s : StoreValue) : Type 0 where
  pub events : List Event
  pub runs : Runs s.most (state_at seen s) events
  pub own : NoneIsReaders events
  pub level : Level (state_from (state_at seen s) events) (state_at seen t)
  pub most : t.most ≡ s.most
  pub are : AreCommands s.most (state_at seen s) commands outcomes events

done_all : (seen : ℕ → ℕ) (commands : List Command) (outcomes : List Outcome) (t s : StoreValue)
    → DoesAll s commands outcomes t → Done seen commands outcomes t s
done_all seen [] [] t s does = record {
  events = [];
  runs = tt;
  own = tt;
  level = record {
    batches = ap (λ (x : StoreValue). x.seen.batches) (sym does);
    pending = ap (λ (x : StoreValue). x.pending) (sym does);
  };
  most = ap (λ (x : StoreValue). x.most) does;
  are = tt;
}
done_all seen (Load job ∷ commands) (Loaded counts ∷ outcomes) t s (between, (map, brings, adds), all) =
    let load : LoadValue = record { domain = job.domain; locale = job.locale; map = map } in
    let rest : Done seen commands outcomes t (record s { pending = s.pending ++ load ∷ [] }) = subst
    (λ (x : StoreValue). Done seen commands outcomes t x) adds.after_is
    (done_all seen commands outcomes t between all) in
    record {
      events = Accept load ∷ rest.events;
      runs = (adds.room, rest.runs);
      own = rest.own;
      level = rest.level;
      most = rest.most;
      are = (adds.names, (refl, refl, brings), rest.are);
    }
done_all seen (Load job ∷ commands) (Refused why ∷ outcomes) t s (between, (refused, same), all) =
    let rest : Done seen commands outcomes t s = subst (λ (x : StoreValue). Done seen commands outcomes t x) same
    (done_all seen commands outcomes t between all) in
    record {
      events = Refuse ∷ rest.events;
      runs = (tt, rest.runs);
      own = rest.own;
      level = rest.level;
      most = rest.most;
      are = ((λ store. any_store s.most (state_at seen s) s.seen store job why refused), rest.are);
    }
done_all seen (Publish ∷ commands) (Published version ∷ outcomes) t s (between, (is, version_is), all) =
    let rest : Done seen commands outcomes t (store_after_publish s) = subst
    (λ (x : StoreValue). Done seen commands outcomes t x) is (done_all seen commands outcomes t between all) in
    record {
      events = Publishes ∷ rest.events;
      runs = (tt, rest.runs);
      own = rest.own;
      level = rest.level;
      most = rest.most;
      are = (version_is ∙ ap (λ (x : StoreValue). version_of x.seen.batches) is, rest.are);
    }
done_all seen (Publish ∷ commands) (Unpublished ∷ outcomes) t s (between, (some, same), all) =
    let rest : Done seen commands outcomes t s = subst (λ (x : StoreValue). Done seen commands outcomes t x) same
    (done_all seen commands outcomes t between all) in
    record {
      events = rest.events;
      runs = rest.runs;
      own = rest.own;
      level = rest.level;
      most = rest.most;
      are = (some, rest.are);
    }
done_all seen (_ ∷ commands) (_ ∷ outcomes) t s (between, one, all) = absurd one
done_all seen _ _ t s does = absurd does

-- what commands that were done add to the publisher's events
pub record Worked (work : List Event) (s t : StoreValue) (commands : List Command) (outcomes : List Outcome) : Type 0
  where
    pub events : List Event
    pub are : AreCommands s.most (state_of work) commands outcomes events
    pub most : t.most ≡ s.most
    pub worked : HasWorked (work ++ events) (lists_of t)

worked_all : (work : List Event) (s t : StoreValue) (commands : List Command) (outcomes : List Outcome)
    → HasWorked work (lists_of s) → DoesAll s commands outcomes t → Worked work s t commands outcomes
worked_all work s t commands outcomes w does =
    let seen = (state_of work).seen in
    let all : Done seen commands outcomes t s = done_all seen commands outcomes t s does in
    let events : List Event = all.events in
    let same : Level (state_at seen s) (state_of work) = record { batches = sym w.batches; pending = sym w.pending } in
    let here : state_at seen s ≡ state_of work =
    λ i. record { batches = same.batches i; pending = same.pending i; seen = seen } in
    let split : state_of (work ++ events) ≡ state_from (state_of work) events = state_append new_store work events in
    let level = level_from (state_at seen s) (state_of work) events same in
    record {
      events = events;
      are = subst (λ (x : State). AreCommands s.most x commands outcomes events) here all.are;
      most = all.most;
      worked = work_append work events (lists_of s) (lists_of t) w all.most all.own
          (runs_level s.most (state_at seen s) (state_of work) events same all.runs)
          (ap (λ (x : State). x.batches) split ∙ (sym level.batches ∙ all.level.batches))
          (ap (λ (x : State). x.pending) split ∙ (sym level.pending ∙ all.level.pending));
    }

pub stop_keeps : StopKeeps
stop_keeps work s t commands w stops =
    let all : Worked work s t stops.first stops.outcomes =
    worked_all work s t stops.first stops.outcomes w stops.done in
    record {
      first = stops.first;
      rest = stops.rest;
      split = stops.split;
      outcomes = stops.outcomes;
      events = all.events;
      commands_are = all.are;
      worked = all.worked;
    }

pub run_lives : (s t : StoreValue) (commands : List Command) (outcomes : List Outcome) (before done : List Client)
    → DoesAll s commands outcomes t → AllZip (IsServed s.seen t.seen) before done
    → HasLife s t commands outcomes before done
run_lives s t commands outcomes before done does served work acts reached =
    let all : Worked work s t commands outcomes = worked_all work s t commands outcomes reached.worked does in
    let events : List Event = all.events in
    let now : Reached (lists_of t) (seen_by_all done) (work ++ events) (acts_after s t acts done) = record {
      worked = all.worked;
      acted = acted_all s.seen t.seen acts before done reached.acted served;
    } in
    let life = one_life (lists_of t) (seen_by_all done) (work ++ events) (acts_after s t acts done) now
    (settled_all s.seen t.seen before done served) in
    record { events = events; commands_are = all.are; most = all.most; reached = now; history = life.0; life = life.1 }
