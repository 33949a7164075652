-- The whole output of a script: what its rounds mean, one after another.
use Rattle.std.specs.Prelude.{◌≡◌, ℕ, zero, suc, ◌+◌, List, [], ◌∷◌, ◌++◌, length, Option, Some, None}
use Rattle.std.specs.List.{AllZip, filter_map, flat_map}
use Rattle.catalogue.specs.Entry.{Entry}
use Rattle.catalogue.specs.declared.LoadFault.{LoadFault}
use Rattle.mo_file.specs.declared.fault.MoFault.{MoFault}
use Rattle.live_set.specs.Loads.{LoadValue}
use Rattle.live_set.specs.Asks.{QueryValue, IsAnswer}
use Rattle.live_versions.specs.Store.{AreNames}
use Rattle.live_loads.specs.declared.fault.StoreFault.{StoreFault}
use Rattle.live_loads.specs.declared.fault.StoreFault.TheVariants as store_fault
use Rattle.desks.specs.Jobs as jobs
use Rattle.desks.specs.declared.job.Accepted as job
use Rattle.desks.specs.declared.job.Accepted.TheVariants as accepted
use Rattle.script_text.specs.ScriptLoads.{JobValue, SourceValue, Po, Mo}
use Rattle.script_text.specs.Script.{QuestionValue, RoundValue, ScriptValue, queries_for}
use Rattle.script_text.specs.Texts.{IsScript}
use Rattle.catserve.specs.Output.{accepted_line, accepted_mo_line, refused_line, refused_mo_line, unnamed_line}
use Rattle.catserve.specs.Output.{version_line, answer_line}

-- what becomes of a load
pub data Outcome : Type 0 where
  Accepted : (load : LoadValue) (answer : job.Accepted) → Outcome
  Refused : (fault : LoadFault) → Outcome
  RefusedMo : (fault : MoFault) → Outcome
  Unnamed : Outcome

-- the source of a load as that of a job
abbrev pub job_source : SourceValue → jobs.SourceValue
job_source (Po text options) = jobs.Po text options
job_source (Mo bytes) = jobs.Mo bytes

-- the source gives this map, and its load returns this
abbrev pub Brings : SourceValue → job.Accepted → List Entry → Type 0
Brings source = jobs.Brings (job_source source)

-- the source has this fault
abbrev pub IsSourceFault : SourceValue → StoreFault → Type 0
IsSourceFault source = jobs.IsSourceFault (job_source source)

-- it has the map that its source brings; its PO text or its MO file is refused; its domain or its locale is no name
abbrev pub IsOutcome : JobValue → Outcome → Type 0
IsOutcome l (Accepted load answer) = AreNames l.domain l.locale × Brings l.source answer load.map
    × (load.domain ≡ l.domain) × (load.locale ≡ l.locale)
IsOutcome l (Refused fault) = AreNames l.domain l.locale × IsSourceFault l.source (store_fault.Refused fault)
IsOutcome l (RefusedMo fault) = AreNames l.domain l.locale × IsSourceFault l.source (store_fault.RefusedMo fault)
IsOutcome l Unnamed = ¬ AreNames l.domain l.locale

-- the line that is written of it
abbrev pub outcome_line : Outcome → List ℕ
outcome_line (Accepted load (accepted.Po stats)) = accepted_line stats
outcome_line (Accepted load (accepted.Mo entries)) = accepted_mo_line entries
outcome_line (Refused fault) = refused_line fault.kind fault.line
outcome_line (RefusedMo fault) = refused_mo_line fault
outcome_line Unnamed = unnamed_line

-- the load, if it was accepted
abbrev pub accepted_load : Outcome → Option LoadValue
accepted_load (Accepted load answer) = Some load
accepted_load _ = None

-- a worker answers its questions over these loads, in order; the version is how many they are
abbrev pub Answers : List LoadValue → ℕ → List QueryValue → List ℕ → Type 0
Answers loads worker queries output = (texts : List (List ℕ)) × AllZip (IsAnswer loads) queries texts
    × (output ≡ flat_map (answer_line worker (length loads)) texts)

-- `count` workers, from this one on, answer one after another, each what it is asked
abbrev pub AnswersInTurn : List LoadValue → List QuestionValue → (worker count : ℕ) → List ℕ → Type 0
AnswersInTurn loads questions worker zero output = output ≡ []
AnswersInTurn loads questions worker (suc count) output = (front : List ℕ) × (back : List ℕ)
    × Answers loads worker (queries_for worker questions) front
    × AnswersInTurn loads questions (worker + 1) count back × (output ≡ front ++ back)

-- a round after these loads: its own loads, its version, and the answers of `workers` workers over all loads so far
pub record Plays (workers : ℕ) (before : List LoadValue) (round : RoundValue) (after : List LoadValue)
    (output : List ℕ) : Type 0 where
  pub outcomes : List Outcome
  pub loaded : AllZip IsOutcome round.loads outcomes
  pub after_is : after ≡ before ++ filter_map accepted_load outcomes
  pub answers : List ℕ
  pub answered : AnswersInTurn after round.questions 0 workers answers
  pub output_is : output ≡ flat_map outcome_line outcomes ++ version_line (length after) ++ answers

-- the rounds after these loads
abbrev pub PlaysAll : ℕ → List LoadValue → List RoundValue → List ℕ → Type 0
PlaysAll workers before [] output = output ≡ []
PlaysAll workers before (round ∷ rounds) output = (after : List LoadValue) × (front : List ℕ) × (back : List ℕ)
    × Plays workers before round after front × PlaysAll workers after rounds back × (output ≡ front ++ back)

-- the output of a text that is a script
abbrev pub HasOutput : List ℕ → List ℕ → Type 0
HasOutput text output = (value : ScriptValue) × IsScript text value × PlaysAll value.workers [] value.rounds output
