-- Which reads are made while the end of a line is looked for.
use Rattle.std.specs.Prelude.{◌≡◌, ◌⊎◌, ℕ, false, List, [], ◌∷◌, ◌++◌, ◌<◌, length, Result, Ok, Err}
use Rattle.devices.specs.Logs.{AnswersFirst, Came, Event, Grows, Log, came, given_bytes}
use Rattle.devices.specs.Incoming.{EndsLines, Incoming, LacksEnd}

-- what came was put at the end of what was there, unless it was lost
abbrev pub IsPlaced : {T E : Type 0} → List ℕ → List ℕ → List ℕ → Result T E → Type 0
IsPlaced old new part (Ok _) = new ≡ old ++ part
IsPlaced old new part (Err _) = new ≡ old

-- one read was made, or one that failed and gave nothing
abbrev pub GrowsOnce : Log → Log → List ℕ → Type 0
GrowsOnce log log' part = Grows log log' (Came part ∷ []) ⊎ (Grows log log' [] × (part ≡ []))

-- a read was tried; what came was put at the end of what was there, unless it was lost
pub record ReadsOnce {T E : Type 0} (log log' : Log) (old new : List ℕ) (result : Result T E) : Type 0 where
  pub part : List ℕ
  pub logged : GrowsOnce log log' part
  pub placed : IsPlaced old new part result

-- what had come holds no end of the line that begins at `from`, the input went on, and nothing had been given
pub record StillWaits (old : Incoming) (from : ℕ) (more gave : List ℕ) : Type 0 where
  pub going : old.ended ≡ false
  pub lacks : LacksEnd (old.left ++ more) from (length (old.left ++ more))
  pub silent : gave ≡ []

-- fewer lines had ended after `from` than are asked for, the input went on, and nothing had been given
pub record StillCounts (count : ℕ) (old : Incoming) (from : ℕ) (more gave : List ℕ) : Type 0 where
  pub going : old.ended ≡ false
  pub ended : ℕ
  pub fewer : ended < count
  pub end : ℕ
  pub ends : EndsLines ended (record { left = old.left ++ more; ended = false }) from end
  pub lacks : LacksEnd (old.left ++ more) end (length (old.left ++ more))
  pub silent : gave ≡ []

-- Only reads were made, each while this held of what had come and what had been given since. What came was put at the
-- end of what was there, except for what was lost.
pub record Waits (log log' : Log) (old new : Incoming) (lost : List ℕ) (Still : List ℕ → List ℕ → Type 0) : Type 0 where
  pub events : List Event
  pub logged : Grows log log' events
  pub placed : old.left ++ came events ≡ new.left ++ lost
  pub silent : given_bytes events ≡ []
  pub each : AnswersFirst Still events

-- nothing was lost but by a fault
abbrev pub WaitsUntil : {T E : Type 0} → Log → Log → Incoming → Incoming → (List ℕ → List ℕ → Type 0) → Result T E
    → Type 0
WaitsUntil log log' old new Still (Ok _) = Waits log log' old new [] Still
WaitsUntil log log' old new Still (Err _) = (lost : List ℕ) × Waits log log' old new lost Still

-- only reads were made, each while this held of what had come and what had been given since
pub record ReadsWhile (log log' : Log) (Still : List ℕ → List ℕ → Type 0) : Type 0 where
  pub events : List Event
  pub logged : Grows log log' events
  pub silent : given_bytes events ≡ []
  pub each : AnswersFirst Still events
