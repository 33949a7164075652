-- Every command line has one outcome, unless a device fails or memory runs out.
use Rattle.std.specs.Prelude.{◌≡◌, ⊤, ℕ, List, IsSome}
use Rattle.msgfmt_steps.specs.RunDevices.{FilesSeen}
use Rattle.msgfmt_tool.specs.Runs.{MakesFile, Run, Runs}
use Rattle.devices.specs.Devices.{InputSeen, OutputSeen}
use Rattle.msgfmt_words.specs.Words.{Asked}
use Rattle.msgfmt_steps.specs.declared.outcome.Cause.TheVariants.{Words, NoInput, Refused}
use Rattle.msgfmt_steps.specs.declared.outcome.Status.{Status}
use Rattle.msgfmt_steps.specs.declared.outcome.Status.TheVariants.{Done, Failed}

-- a status that the arguments and the texts decide: no device failed, and memory didn't run out
abbrev pub IsSettled : Status → Type 0
IsSettled Done = ⊤
IsSettled (Failed Words) = ⊤
IsSettled (Failed NoInput) = ⊤
IsSettled (Failed (Refused fault)) = ⊤
IsSettled (Failed cause) = ⊥

-- two runs begin with the same files and the same standard input, which report their bytes
pub record BeginAlike (run other : Run) : Type 0 where
  pub files : other.files.before ≡ run.files.before
  pub input : other.input.before ≡ run.input.before
  pub files_tell : (name : List ℕ) → IsSome (run.files.before.content name)
  pub input_tells : IsSome run.input.before.left

-- two runs with the same arguments end with one status
abbrev pub HasOneStatus : Type 0
HasOneStatus = (words : List (List ℕ)) (run other : Run) (status other_status : Status) → BeginAlike run other
    → IsSettled status → IsSettled other_status → Runs run words status → Runs other words other_status
    → status ≡ other_status

-- and two runs of one request write one file
abbrev pub HasOneFile : Type 0
HasOneFile = (request : Asked) (run other : Run) → BeginAlike run other → (makes : MakesFile run request)
    (other_makes : MakesFile other request) → makes.compiled ≡ other_makes.compiled

-- a run of these arguments that begins with these devices, and that the arguments and the texts decide
pub record SettledRun (words : List (List ℕ)) (files : FilesSeen) (input : InputSeen) (output : OutputSeen)
    : Type 0 where
  pub run : Run
  pub files_are : run.files.before ≡ files
  pub input_is : run.input.before ≡ input
  pub output_is : run.output.before ≡ output
  pub status : Status
  pub settled : IsSettled status
  pub runs : Runs run words status

-- there is such a run for all arguments, files and inputs
abbrev pub HasSomeRun : Type 0
HasSomeRun = (words : List (List ℕ)) (files : FilesSeen) (input : InputSeen) (output : OutputSeen)
    → ¬ ¬ SettledRun words files input output
