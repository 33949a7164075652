-- Private: when a session waits for more of its input, and what it has answered by then.
use Rattle.std.specs.Prelude.{◌≡◌, ◌⊎◌, ℕ, false, List, [], ◌∷◌, ◌++◌, take, Option, Some, None, Result, Ok, Err}
use Rattle.devices.specs.Logs.{AnswersFirst, Event, Gave, Grows, Log, came, given_bytes as gave}
use Rattle.devices.specs.Incoming.{Incoming}
use Rattle.devices.specs.Waiting.{ReadsWhile, StillCounts}
use Rattle.catserve.specs.declared.hearing.Heard.{Heard}
use Rattle.catserve.specs.declared.session_fault.SessionFault.{SessionFault}
use Rattle.script_text.specs.Script.{Command, Go}
use Rattle.devices.specs.Devices.{InputSeen, OutputSeen}
use Rattle.catserve.specs.Session.{AnswersInTime, IsAnswered, IsOpen}
use Rattle.catserve.specs.Hearing.{Begins, Hears, HearsEnd, HearsNone, HearingValue, commands_of}
use Rattle.catserve.specs.Talking.{AnswersRound, Conversing, Responds, PlayerValue}

-- no round ends in what is there and what came, and nothing was given since
pub record StillOpen (workers : ℕ) (old : Incoming) (more given : List ℕ) : Type 0 where
  pub going : old.ended ≡ false
  pub is_open : IsOpen workers (old.left ++ more)
  pub silent : given ≡ []

-- only reads were made, each while no round could end, and these bytes came
pub record ReadsOpen (log log' : Log) (workers : ℕ) (old : Incoming) (more : List ℕ) : Type 0 where
  pub events : List Event
  pub logged : Grows log log' events
  pub came_is : came events ≡ more
  pub silent : gave events ≡ []
  pub each : AnswersFirst (StillOpen workers old) events

-- only reads were made, each while fewer lines had come than a load counts; these bytes are its text, which was taken
-- off with the load's line
pub record ReadsText (log log' : Log) (old new : Incoming) (end count : ℕ) (bytes : List ℕ) : Type 0 where
  pub events : List Event
  pub logged : Grows log log' events
  pub placed : old.left ++ came events ≡ (take end old.left ++ bytes) ++ new.left
  pub silent : gave events ≡ []
  pub each : AnswersFirst (StillCounts count old end) events

-- what was heard, or why nothing was, and how it was read
abbrev pub HearsInTime : InputSeen → InputSeen → Log → Log → ℕ → HearingValue → HearingValue
    → Result (Option Heard) SessionFault → Type 0
HearsInTime i i' log log' workers x y (Ok (Some thing)) = (h : Hears i i' workers x y (commands_of thing))
    × ReadsOpen log log' workers x.input h.taken.more
HearsInTime i i' log log' workers x y (Ok None) = HearsEnd i i' x y × ReadsWhile log log' (StillOpen workers x.input)
HearsInTime i i' log log' workers x y (Err fault) = HearsNone i i' workers x y fault.kind fault.line
    × ReadsWhile log log' (StillOpen workers x.input)

-- some bytes were given, or none
abbrev pub GivesSome : Log → Log → Type 0
GivesSome log log' = Grows log log' [] ⊎ ((bytes : List ℕ) × Grows log log' (Gave bytes ∷ []))

-- the round was answered, and its lines were given
abbrev pub GivesRound : PlayerValue → PlayerValue → OutputSeen → OutputSeen → Log → Log → Type 0
GivesRound old new o o' log log' = (a : AnswersRound old new o o') × Grows log log' (Gave a.lines ∷ [])

-- what a line says was done, and only the end of a round gives something
abbrev pub RespondsInTime : Option Command → PlayerValue → PlayerValue → OutputSeen → OutputSeen → Log → Log → Type 0
RespondsInTime (Some Go) old new o o' log log' = GivesRound old new o o' log log'
RespondsInTime command old new o o' log log' = Responds command old new o o' × (log' ≡ log)

-- this text came and this output was given; before each read all rounds that had ended were answered
pub record InTime (given : Option ℕ) (log log' : Log) (text output : List ℕ) : Type 0 where
  pub events : List Event
  pub logged : Grows log log' events
  pub came_is : came events ≡ text
  pub given_is : gave events ≡ output
  pub first : AnswersFirst (IsAnswered given) events

-- a session has begun in time, and nothing was given yet
abbrev pub BeginsInTime : Option ℕ → InputSeen → InputSeen → HearingValue → ℕ → Log → Log → Type 0
BeginsInTime given i i' y workers log log' = (b : Begins given i i' y workers) × InTime given log log' b.taken.more []

-- a session that has begun in time has gone on so
abbrev pub TalksInTime : ℕ → InputSeen → InputSeen → OutputSeen → OutputSeen → HearingValue → HearingValue → PlayerValue
    → PlayerValue → Log → Log → Type 0
TalksInTime workers i i' o o' x y start talk log log' = (c : Conversing workers i i' o o' x y start talk)
    × ((given : Option ℕ) (first : InputSeen) (b : Begins given first i x workers) (before : Log)
    → InTime given before log b.taken.more [] → InTime given before log' (b.taken.more ++ c.taken.more) c.written)

-- a session that has begun in time goes on so to its end
abbrev pub ContinuesInTime : ℕ → InputSeen → HearingValue → Log → Log → Type 0
ContinuesInTime workers i x log log' = (given : Option ℕ) (first : InputSeen) (b : Begins given first i x workers)
    (before : Log) → InTime given before log b.taken.more [] → AnswersInTime given before log'
