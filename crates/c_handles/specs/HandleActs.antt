-- What the calls of a trace are in the history of a store: events of its publisher, and acts of its readers.
use Rattle.std.specs.Prelude.{◌≡◌, ℕ, ◌==◌, ◌≤◌, ◌&&◌, Bool, false, if◌then◌else◌, List, [], ◌∷◌, ◌++◌, Option, None}
use Rattle.std.specs.Prelude.{Some, ⊤, length, max}
use Rattle.std.specs.List.{AllByRecursion}
use Rattle.std.specs.Option.{option_map_or}
use Rattle.std.specs.Arc.{arc_value}
use Rattle.live_set.specs.Loads.{LoadValue}
use Rattle.live_loads.specs.Batches.{joined_loads, version_of}
use Rattle.live_versions.specs.History.{Event, Accept, Refuse, Publish as PublishEvent}
use Rattle.life.specs.Life.{Met, Entry, Notice}
use Rattle.c_answers.specs.Answering.{Question}
use Rattle.c_answers.specs.Numbers.{no_fault}
use Rattle.c_answers.specs.declared.opened.Opened.{Opened}
use Rattle.c_sets.specs.Making.{IsAnswerOver, load_of}
use Rattle.c_handles.specs.Calls.{Call, Loads, Publishes, MakesReader, Enters, EntersAfter}
use Rattle.c_handles.specs.Calls.{Leaves, Looks, LooksAt, ClosesReader}

-- ---- the publisher

-- a load is accepted, or refused
abbrev pub load_events : List ℕ → List ℕ → Opened → ℕ → List Event
load_events domain locale opened fault = option_map_or
    (λ shared. if fault == no_fault then Accept (load_of domain locale (arc_value shared)) ∷ [] else Refuse ∷ [])
    opened.catalogue (Refuse ∷ [])

-- a publish that is refused is no event
abbrev pub publish_events : ℕ → List Event
publish_events fault = if fault == no_fault then PublishEvent ∷ [] else []

-- the events of one store in a call
abbrev pub events_in : ℕ → Call → List Event
events_in store (Loads other domain locale opened fault) =
    if store == other then load_events domain locale opened fault else []
events_in store (Publishes other fault) = if store == other then publish_events fault else []
events_in store _ = []

-- those of one store in a trace
abbrev pub work_in : ℕ → List Call → List Event
work_in store [] = []
work_in store (call ∷ calls) = events_in store call ++ work_in store calls

-- ---- a reader

-- a question, and the text that it was answered: with its terminating NUL, or no bytes if nothing is translated
pub record Look : Type 0 where
  pub domain : List ℕ
  pub languages : List ℕ
  pub question : Question
  pub text : List ℕ

-- a reader entered this version, and looked these up before it entered the next one or left; or it was told of this
-- version, by a notice or by the entrance where it was made
pub data ReaderAct : Type 0 where
  Entered : (version : ℕ) (looks : List Look) → ReaderAct
  Told : (version : ℕ) → ReaderAct

-- the call ends what the reader last entered
abbrev pub ends_entry : ℕ → Call → Bool
ends_entry reader (MakesReader entrance other told version fault) = reader == other && fault == no_fault
ends_entry reader (Enters other version fault) = reader == other && fault == no_fault
ends_entry reader (EntersAfter other notice told version fault) = reader == other && fault == no_fault
ends_entry reader (Leaves other) = reader == other
ends_entry reader (ClosesReader other) = reader == other
ends_entry reader _ = false

-- the look-up of a reader in a call
abbrev pub look_in : ℕ → Call → List Look
look_in reader (Looks other domain languages question text) = if reader == other
    then record { domain = domain; languages = languages; question = question; text = text } ∷ [] else []
look_in reader (LooksAt other domain languages places question text) = if reader == other
    then record { domain = domain; languages = languages; question = question; text = text } ∷ [] else []
look_in reader _ = []

-- the look-ups of a reader until it enters another version or leaves
abbrev pub looks_in : ℕ → List Call → List Look
looks_in reader [] = []
looks_in reader (call ∷ calls) = if ends_entry reader call then [] else look_in reader call ++ looks_in reader calls

-- what was told, if anything was
abbrev pub telling : Option ℕ → List ReaderAct
telling None = []
telling (Some version) = Told version ∷ []

-- an entry, after what was told; one that is refused is no act
abbrev pub entry_acts : Option ℕ → ℕ → ℕ → List Look → List ReaderAct
entry_acts told version fault looks = if fault == no_fault then telling told ++ Entered version looks ∷ [] else []

-- the acts of one reader in a call, if these are its look-ups afterwards
abbrev pub acts_at : ℕ → Call → List Look → List ReaderAct
acts_at reader (MakesReader entrance other told version fault) looks =
    if reader == other then entry_acts told version fault looks else []
acts_at reader (Enters other version fault) looks =
    if reader == other then entry_acts None version fault looks else []
acts_at reader (EntersAfter other notice told version fault) looks =
    if reader == other then entry_acts told version fault looks else []
acts_at reader _ looks = []

-- those of one reader in a trace
abbrev pub acts_in : ℕ → List Call → List ReaderAct
acts_in reader [] = []
acts_in reader (call ∷ calls) = acts_at reader call (looks_in reader calls) ++ acts_in reader calls

-- ---- what an act is by itself

-- each text is its question's answer over these loads
abbrev pub AreAnswered : List LoadValue → List Look → Type 0
AreAnswered loads looks = AllByRecursion (λ l. IsAnswerOver loads l.domain l.languages l.question l.text) looks

-- Acts of a reader that had seen this version: no entry is of a version below one that it entered or was told of
-- before, and the look-ups of an entry are answered over as many loads as its version says.
abbrev pub GoOn : ℕ → List ReaderAct → Type 0
GoOn seen [] = ⊤
GoOn seen (Entered version looks ∷ acts) = (seen ≤ version)
    × ((loads : List LoadValue) × (version ≡ length loads) × AreAnswered loads looks) × GoOn version acts
GoOn seen (Told version ∷ acts) = GoOn (max seen version) acts

-- ---- what it is in a history

-- The step is this act: an entry's version is the number of loads that are published there, no less than what the
-- reader had seen, and each text is its question's answer over all loads that are published there.
abbrev pub IsStepOf : ReaderAct → Met → Type 0
IsStepOf (Entered version looks) (Entry batches seen) = (version ≡ version_of batches) × (seen ≤ version)
    × AreAnswered (joined_loads batches) looks
IsStepOf (Told version) (Notice told) = told ≡ version
IsStepOf _ _ = ⊥
