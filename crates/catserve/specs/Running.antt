-- Private: the steps of a run.
use Rattle.std.specs.Prelude.{◌≡◌, ◌⊎◌, ⊤, ℕ, ◌+◌, ◌<◌, ◌≤◌, true, List, [], ◌∷◌, ◌++◌, All, Option, Result, Ok, Err}
use Rattle.std.specs.Io.KnownBytes.{Appends}
use Rattle.std.specs.List.{AllZip, filter_map, flat_map, list_any}
use Rattle.live_set.specs.Loads.{LoadValue}
use Rattle.script_text.specs.declared.fault.ScriptKind.{ScriptKind}
use Rattle.script_text.specs.declared.fault.ScriptKind.TheVariants.{ReadFault, WriteFault, NoPlace, Closed, Join}
use Rattle.script_text.specs.declared.fault.ScriptKind.TheVariants.{Memory}
use Rattle.live_versions.specs.Batches.{joined_loads, version_of}
use Rattle.live_versions.specs.Seen.{SeenValue}
use Rattle.live_versions.specs.Store.{StoreValue}
use Rattle.live_loads.specs.declared.fault.StoreFault.{StoreFault}
use Rattle.live_loads.specs.declared.fault.StoreFault.TheVariants as store_fault
use Rattle.live_versions.specs.declared.fault.OpenFault.{OpenFault}
use Rattle.live_versions.specs.declared.fault.OpenFault.TheVariants as open_fault
use Rattle.desks.specs.declared.job.Accepted as job
use Rattle.desks.specs.declared.job.Accepted.TheVariants as accepted
use Rattle.desks.specs.declared.desk.Desk.{Desk}
use Rattle.catserve.specs.Asking.{readers_of, AreAsked, is_asked}
use Rattle.script_text.specs.Script.{load_count, Command, RoundValue, ScriptValue, rounds_of}
use Rattle.desks.specs.Desks.{EndsAhead}
use Rattle.desks.specs.Jobs as jobs
use Rattle.desks.specs.declared.desk.ServeFault.{ServeFault}
use Rattle.desks.specs.declared.desk.ServeFault.TheVariants as fault
use Rattle.script_text.specs.ScriptLoads.{JobValue, SourceValue, Po, Mo}
use Rattle.catserve.specs.Output.{accepted_line, accepted_mo_line, refused_line, refused_mo_line, unnamed_line}
use Rattle.catserve.specs.Rounds.{Outcome, IsOutcome, outcome_line, accepted_load, Plays, PlaysAll}
use Rattle.script_text.specs.Texts.{IsRefused, IsScript}
use Rattle.devices.specs.Devices.{InputSeen}
use Rattle.catserve.specs.Run.{FailsToRead, question_count}

-- the desks' readers are those of a store
abbrev pub HaveBook : SeenValue → List Desk → Type 0
HaveBook seen desks = All (λ (reader : SeenValue). reader.book ≡ seen.book) (readers_of desks)

-- the desks of a store's readers, which are asked nothing
pub record AreReady (seen : SeenValue) (desks : List Desk) : Type 0 where
  pub book : HaveBook seen desks
  pub free : AreAsked 0 [] desks

-- the source of a job as that of a load
abbrev pub load_source : jobs.SourceValue → SourceValue
load_source (jobs.Po text options) = Po text options
load_source (jobs.Mo bytes) = Mo bytes

-- a job as a load
abbrev pub load_of : jobs.JobValue → JobValue
load_of job = record { domain = job.domain; locale = job.locale; source = load_source job.source }

-- the line of a load that returned this
abbrev pub IsLineOf : Result job.Accepted StoreFault → List ℕ → Type 0
IsLineOf (Ok (accepted.Po stats)) line = line ≡ accepted_line stats
IsLineOf (Ok (accepted.Mo entries)) line = line ≡ accepted_mo_line entries
IsLineOf (Err store_fault.BadName) line = line ≡ unnamed_line
IsLineOf (Err (store_fault.Refused fault)) line = line ≡ refused_line fault.kind fault.line
IsLineOf (Err (store_fault.RefusedMo fault)) line = line ≡ refused_mo_line fault
IsLineOf (Err _) line = ⊥

-- a load was made: its outcome, the pending loads, and its line
pub record LoadsOne (load : JobValue) (pending pending' : List LoadValue) (before after : List ℕ) : Type 0 where
  pub outcome : Outcome
  pub is : IsOutcome load outcome
  pub pending_are : pending' ≡ pending ++ filter_map accepted_load (outcome ∷ [])
  pub written : after ≡ before ++ outcome_line outcome

-- loads were made, one after another
pub record LoadsAll (loads : List JobValue) (pending pending' : List LoadValue) (before after : List ℕ) : Type 0 where
  pub outcomes : List Outcome
  pub each : AllZip IsOutcome loads outcomes
  pub pending_are : pending' ≡ pending ++ filter_map accepted_load outcomes
  pub written : after ≡ before ++ flat_map outcome_line outcomes

-- some first loads were made, and nothing was published
pub record HasLoaded (loads : List JobValue) (was now : StoreValue) (before after : List ℕ) : Type 0 where
  pub loaded : LoadsAll loads was.pending now.pending before after
  pub seen : now.seen ≡ was.seen
  pub most : now.most ≡ was.most

-- a round was played: what is published, and its lines
pub record PlaysOne (workers : ℕ) (round : RoundValue) (was now : StoreValue) (before after : List ℕ) : Type 0 where
  pub output : List ℕ
  pub plays : Plays workers (joined_loads was.seen.batches) round (joined_loads now.seen.batches) output
  pub none_pending : now.pending ≡ []
  pub most : now.most ≡ was.most
  pub written : after ≡ before ++ output

-- a round whose loads were made and whose questions the desks have is finished
abbrev pub Finishes : (workers : ℕ) (loaded : StoreValue) (asked : List Desk) (loads_are : List ℕ) (now : StoreValue)
    (after : List ℕ) → Type 0
Finishes workers loaded asked loads_are now after = (round : RoundValue) (was : StoreValue) (before : List ℕ)
    → was.pending ≡ [] → HasLoaded round.loads was loaded before loads_are → AreAsked 0 round.questions asked
    → PlaysOne workers round was now before after

-- these rounds were played after a store's loads: what follows them in a script goes on from here
pub record HasPlayed (workers : ℕ) (rounds : List RoundValue) (was now : StoreValue) (output : List ℕ) : Type 0 where
  pub going : (rest : List RoundValue) (tail : List ℕ) → PlaysAll workers (joined_loads now.seen.batches) rest tail
      → PlaysAll workers (joined_loads was.seen.batches) (rounds ++ rest) (output ++ tail)
  pub none_pending : now.pending ≡ []
  pub few : version_of now.seen.batches ≤ version_of was.seen.batches + load_count rounds
  pub most : now.most ≡ was.most

-- the fault of an opening as an error of a script: no store has a place for so many readers
abbrev pub kind_of_open : OpenFault → ScriptKind
kind_of_open open_fault.BadCount = NoPlace
kind_of_open open_fault.NoPlace = NoPlace
kind_of_open open_fault.Memory = Memory

-- the fault of a service as an error of a script
abbrev pub kind_of : ServeFault → ScriptKind
kind_of fault.Memory = Memory
kind_of fault.Ahead = Closed
kind_of fault.Join = Join
kind_of fault.Closed = Closed

-- a store isn't opened for these alone
abbrev pub IsOpenKind : ScriptKind → Type 0
IsOpenKind NoPlace = ⊤
IsOpenKind Memory = ⊤
IsOpenKind _ = ⊥

-- why a round isn't finished: a desk has a question, and a reader found the store closed, or has seen more than is
-- published; or memory ran out
abbrev pub FailsToFinish : (asked : List Desk) (end : SeenValue) (after : List Desk) → ScriptKind → Type 0
FailsToFinish asked end after Closed = (list_any is_asked asked ≡ true)
    × (EndsAhead end after fault.Closed ⊎ EndsAhead end after fault.Ahead)
FailsToFinish asked end after Memory = ⊤
FailsToFinish asked end after _ = ⊥

-- these commands were played, and their output was written
abbrev pub HasPlayedAll : ℕ → List Command → (old new : Option (List ℕ)) → Type 0
HasPlayedAll workers commands old new = (output : List ℕ) × PlaysAll workers [] (rounds_of commands) output
    × Appends old new output

-- or they weren't, for one of these
abbrev pub CutsShort : List Command → ScriptKind → Type 0
CutsShort commands WriteFault = ⊤
CutsShort commands Closed = 0 < question_count (rounds_of commands)
CutsShort commands Memory = ⊤
CutsShort commands _ = ⊥

-- why a script has no output if its lines are written to memory: there only memory can stop the writer
abbrev pub kind_in_memory : ScriptKind → ScriptKind
kind_in_memory WriteFault = Memory
kind_in_memory kind = kind

-- why a script wasn't read
abbrev pub EndsReading : InputSeen → InputSeen → ScriptKind → ℕ → Type 0
EndsReading i i' ReadFault line = FailsToRead i i' × (line ≡ 0)
EndsReading i i' Memory line = line ≡ 0
EndsReading i i' _ line = ⊥

-- the text is a script
abbrev pub IsSomeScript : List ℕ → Type 0
IsSomeScript text = (value : ScriptValue) × IsScript text value

-- why a script that was read has given no output
abbrev pub EndsPlaying : List ℕ → ScriptKind → ℕ → Type 0
EndsPlaying text ReadFault line = ⊥
EndsPlaying text WriteFault line = ⊥
EndsPlaying text NoPlace line = IsSomeScript text × (line ≡ 0)
EndsPlaying text Closed line = (is : IsSomeScript text) × (0 < question_count is.0.rounds) × (line ≡ 0)
EndsPlaying text Join line = ⊥
EndsPlaying text kind line = IsRefused text kind line
