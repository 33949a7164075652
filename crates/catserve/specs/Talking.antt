-- Private: how a session is answered, round by round.
use Rattle.std.specs.Prelude.{◌≡◌, ℕ, ◌+◌, ◌<◌, ◌≤◌, Bool, true, false, List, [], ◌++◌, length}
use Rattle.std.specs.Prelude.{Option, Some, None, Result}
use Rattle.std.specs.List.{concat}
use Rattle.std.specs.Str.{IsUtf8}
use Rattle.std.specs.Io.KnownBytes.{Appends}
use Rattle.devices.specs.Devices.{AppendsFront, InputSeen, OutputSeen, RisesBy, most_counted}
use Rattle.live_set.specs.Asks.{QueryValue}
use Rattle.live_versions.specs.Store.{StoreValue}
use Rattle.script_text.specs.ScriptLoads.{JobValue}
use Rattle.desks.specs.declared.desk.Desk.{Desk}
use Rattle.script_text.specs.Script.{Command, Load, Ask, Go, commands_from, script_of}
use Rattle.script_text.specs.ScriptFields.{most_workers}
use Rattle.script_text.specs.Gathering.{Gathered, going_on, loads_so_far}
use Rattle.script_text.specs.declared.fault.ScriptKind.{ScriptKind}
use Rattle.script_text.specs.declared.fault.ScriptKind.TheVariants.{WriteFault}
use Rattle.catserve.specs.declared.session_fault.SessionFault.{SessionFault}
use Rattle.catserve.specs.Asking.{AreAsked, GivesOne}
use Rattle.catserve.specs.Running.{AreReady, FailsToFinish, Finishes, HasLoaded, HasPlayed, HaveBook, LoadsOne}
use Rattle.catserve.specs.Session.{HaveEnded, Converses}
use Rattle.catserve.specs.Hearing.{HearingValue, HasTaken, Begins}

-- a store, its desks, the lines that are held back, and whether the open round has a load or a question
pub record PlayerValue : Type 0 where
  pub store : StoreValue
  pub desks : List Desk
  pub held : List ℕ
  pub begun : Bool

-- the round was finished, and its lines were written
pub record AnswersRound (old new : PlayerValue) (o o' : OutputSeen) : Type 0 where
  pub lines : List ℕ
  pub finishes : Finishes (length old.desks) old.store old.desks old.held new.store lines
  pub ready : AreReady new.store.seen new.desks
  pub count : length new.desks ≡ length old.desks
  pub held : new.held ≡ []
  pub begun : new.begun ≡ false
  pub written : Appends o.bytes o'.bytes lines
  pub steady : o'.failures ≡ o.failures

-- a load was made
pub record MakesLoad (load : JobValue) (old new : PlayerValue) : Type 0 where
  pub loads : LoadsOne load old.store.pending new.store.pending old.held new.held
  pub seen : new.store.seen ≡ old.store.seen
  pub most : new.store.most ≡ old.store.most
  pub desks : new.desks ≡ old.desks
  pub begun : new.begun ≡ true

-- a question was given
pub record GivesQuestion (worker : ℕ) (query : QueryValue) (old new : PlayerValue) : Type 0 where
  pub gives : GivesOne old.desks worker query new.desks
  pub store : new.store ≡ old.store
  pub held : new.held ≡ old.held
  pub begun : new.begun ≡ true

-- what a line says was done
abbrev pub Responds : Option Command → PlayerValue → PlayerValue → OutputSeen → OutputSeen → Type 0
Responds None old new o o' = (new ≡ old) × (o' ≡ o)
Responds (Some (Load load)) old new o o' = MakesLoad load old new × (o' ≡ o)
Responds (Some (Ask worker query)) old new o o' = GivesQuestion worker query old new × (o' ≡ o)
Responds (Some Go) old new o o' = AnswersRound old new o o'

-- the round was finished, and a prefix of its lines was written before the writer failed
pub record BreaksRound (old : PlayerValue) (o o' : OutputSeen) : Type 0 where
  pub lines : List ℕ
  pub store : StoreValue
  pub finishes : Finishes (length old.desks) old.store old.desks old.held store lines
  pub front : AppendsFront o.bytes o'.bytes lines
  pub failed : RisesBy 1 o.failures o'.failures

-- why a round isn't answered: its lines couldn't be written; or it wasn't finished, and nothing was written
abbrev pub FailsToAnswer : PlayerValue → PlayerValue → OutputSeen → OutputSeen → ScriptKind → Type 0
FailsToAnswer old new o o' WriteFault = BreaksRound old o o'
FailsToAnswer old new o o' kind = FailsToFinish old.desks new.store.seen new.desks kind × (o' ≡ o)

-- a player before its first round, with this number of workers
pub record IsFresh (workers : ℕ) (talk : PlayerValue) : Type 0 where
  pub ready : AreReady talk.store.seen talk.desks
  pub count : length talk.desks ≡ workers
  pub some : 1 ≤ workers
  pub few : workers ≤ most_workers
  pub none_published : talk.store.seen.batches ≡ []
  pub none_pending : talk.store.pending ≡ []
  pub room : talk.store.most ≡ most_counted
  pub held : talk.held ≡ []
  pub begun : talk.begun ≡ false

-- the rounds that have ended were played, and their output is written; the loads of the open one were made, and its
-- questions are given to the desks
pub record HasTalked (workers : ℕ) (g : Gathered) (start : StoreValue) (talk : PlayerValue) (written : List ℕ) : Type 0
  where
    pub before : StoreValue
    pub played : HasPlayed workers g.ended start before written
    pub loaded : HasLoaded g.current.loads before talk.store [] talk.held
    pub asked : AreAsked 0 g.current.questions talk.desks
    pub book : HaveBook talk.store.seen talk.desks
    pub count : length talk.desks ≡ workers
    pub begun : talk.begun ≡ g.begun

-- these lines were heard after the preamble of a session
pub record HasHeard (workers first : ℕ) (lines : List (List ℕ)) (g : Gathered) (number : ℕ) : Type 0 where
  pub going : (behind : List (List ℕ)) → script_of workers (commands_from workers first 0 (lines ++ behind))
      ≡ going_on workers g (commands_from workers number 0 behind)
  pub number_is : number ≡ first + length lines
  pub few : loads_so_far g < number
  pub utf8 : IsUtf8 (concat lines)

-- the lines of the open round, which have `size` bytes
pub record HasOpen (given : Option ℕ) (front : List (List ℕ)) (g : Gathered) (size : ℕ) : Type 0 where
  pub before : List (List ℕ)
  pub round : List (List ℕ)
  pub cut : front ≡ before ++ round
  pub size_is : size ≡ length (concat round)
  pub workers : ℕ
  pub ended_before : HaveEnded given before workers g.ended

-- a session has gone on, line by line, up to here
pub record Conversing (workers : ℕ) (i i' : InputSeen) (o o' : OutputSeen) (x y : HearingValue)
    (start talk : PlayerValue) : Type 0 where
  pub lines : List (List ℕ)
  pub g : Gathered
  pub written : List ℕ
  pub taken : HasTaken i i' x.input y.input lines
  pub heard : HasHeard workers x.number lines g y.number
  pub talked : HasTalked workers g start.store talk written
  pub output : Appends o.bytes o'.bytes written
  pub steady : o'.failures ≡ o.failures
  pub is_open : (given : Option ℕ) (first : InputSeen) (b : Begins given first i x workers)
      → HasOpen given (b.front ++ lines) g y.size

-- what a session does from here on, after every front that it may have
abbrev pub Continues : {T : Type 0} → ℕ → InputSeen → InputSeen → OutputSeen → OutputSeen → HearingValue
    → Result T SessionFault → Type 0
Continues workers i i' o o' x result = (given : Option ℕ) (first : InputSeen) → Begins given first i x workers
    → Converses given first i' o o' result
