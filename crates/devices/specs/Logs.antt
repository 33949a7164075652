-- What comes from a device and what is given to it, in one list.
use Rattle.std.specs.Prelude.{◌≡◌, ⊤, ℕ, List, [], ◌∷◌, ◌++◌, ◌⊎◌, take, Option, Some, None, Result, Ok, Err}

-- a read, with the bytes that came: none at the end of the input; a write, with the bytes that were given
pub data Event : Type 0 where
  Came : (bytes : List ℕ) → Event
  Gave : (bytes : List ℕ) → Event

-- the reads and writes of a device, where it reports them, the last one last
abbrev pub Log : Type 0
Log = Option (List Event)

-- these reads and writes were made
abbrev pub Grows : Log → Log → List Event → Type 0
Grows None new events = ⊤
Grows (Some old) None events = ⊥
Grows (Some old) (Some new) events = new ≡ old ++ events

-- all that came
abbrev pub came : List Event → List ℕ
came [] = []
came (Came bytes ∷ events) = bytes ++ came events
came (Gave bytes ∷ events) = came events

-- all that was given
abbrev pub given_bytes : List Event → List ℕ
given_bytes [] = []
given_bytes (Came bytes ∷ events) = given_bytes events
given_bytes (Gave bytes ∷ events) = bytes ++ given_bytes events

-- a read that failed leaves the log as it was
abbrev pub read_events : {E : Type 0} → Result ℕ E → List ℕ → List Event
read_events (Ok n) buffer = Came (take n buffer) ∷ []
read_events (Err fault) buffer = []

-- all the bytes were given; after a fault a prefix of them, or the log is as it was
abbrev pub Gives : {T E : Type 0} → Log → Log → List ℕ → Result T E → Type 0
Gives old new bytes (Ok done) = Grows old new (Gave bytes ∷ [])
Gives old new bytes (Err fault) = Grows old new [] ⊎ ((n : ℕ) × Grows old new (Gave (take n bytes) ∷ []))

-- Before each read, what had been given was what the bytes that had come mean: no answer is due while the device waits.
abbrev pub AnswersFirst : (List ℕ → List ℕ → Type 0) → List Event → Type 0
AnswersFirst Means events = (before : List Event) (bytes : List ℕ) (after : List Event)
    → events ≡ before ++ Came bytes ∷ after → Means (came before) (given_bytes before)
