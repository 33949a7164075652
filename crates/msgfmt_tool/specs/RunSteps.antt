-- Private: what the steps of a run answer.
use Rattle.std.specs.Prelude.{◌⊎◌, ℕ, ⊤, List, Result, Ok, Err, IsTrue}
use Rattle.devices.specs.Devices.{RisesBy, InputSeen, OutputSeen}
use Rattle.catalogue.specs.Meaning.{Means, Refuses}
use Rattle.catalogue.specs.MoFile.{spelling}
use Rattle.catalogue.specs.declared.Options.{Options}
use Rattle.catalogue.specs.declared.Compiled.{Compiled}
use Rattle.catalogue.specs.declared.LoadFault.{LoadFault}
use Rattle.msgfmt_words.specs.Words.{Asked}
use Rattle.msgfmt_steps.specs.RunDevices.{Change, FailsToRead, FailsToWrite, FilesSeen, IsUnwritten, Reads, TellsAll}
use Rattle.msgfmt_steps.specs.RunDevices.{Writes}
use Rattle.msgfmt_steps.specs.RunDevices.{is_standard}
use Rattle.msgfmt_steps.specs.declared.outcome.Cause.{Cause}
use Rattle.msgfmt_steps.specs.declared.outcome.Cause.TheVariants.{CannotRead, CannotWrite, ErrorOutput, Memory, Refused}
use Rattle.msgfmt_tool.specs.Runs.{Fails, MakesFile, Run}

-- ---- reading

-- the text of INPUT was read and compiled
pub record CompilesNamed (files : FilesSeen) (input : Change InputSeen) (name : List ℕ) (options : Options)
    (compiled : Compiled) : Type 0 where
  pub text : List ℕ
  pub read : Reads (is_standard name) files input name text
  pub means : Means text options compiled

-- it was read and refused
pub record RefusesNamed (files : FilesSeen) (input : Change InputSeen) (name : List ℕ) (options : Options)
    (fault : LoadFault) : Type 0 where
  pub text : List ℕ
  pub read : Reads (is_standard name) files input name text
  pub refuses : Refuses text options fault.kind fault.line

-- why INPUT wasn't compiled
abbrev pub EndsCompiling : Change FilesSeen → Change InputSeen → List ℕ → Options → Cause → Type 0
EndsCompiling files input name options CannotRead = FailsToRead (is_standard name) files input
EndsCompiling files input name options (Refused fault) = RefusesNamed files.before input name options fault
EndsCompiling files input name options Memory = ⊤
EndsCompiling files input name options _ = ⊥

-- ---- writing

-- FILE has the MO file of what was compiled
abbrev pub WritesCompiled : Change FilesSeen → Change OutputSeen → Asked → Compiled → Type 0
WritesCompiled files output request compiled =
    Writes (is_standard request.output) files output request.output (spelling compiled.catalogue)

-- what was compiled is delivered: warnings, FILE, statistics
abbrev pub Delivers : {T : Type 0} → Change FilesSeen → Change OutputSeen → Change ℕ → Asked → Compiled
    → Result T Cause → Type 0
Delivers files output errors request compiled (Ok done) =
    TellsAll errors × WritesCompiled files output request compiled
Delivers files output errors request compiled (Err CannotWrite) =
    FailsToWrite (is_standard request.output) files output request.output
Delivers files output errors request compiled (Err ErrorOutput) = RisesBy 1 errors.before errors.after
    × ((IsTrue request.options.checked × IsUnwritten files output)
    ⊎ (IsTrue request.statistics × WritesCompiled files output request compiled))
Delivers files output errors request compiled (Err Memory) =
    IsUnwritten files output ⊎ (IsTrue request.statistics × WritesCompiled files output request compiled)
Delivers files output errors request compiled (Err _) = ⊥

-- ---- a run

-- the work on what the arguments ask for
abbrev pub Works : {T : Type 0} → Run → Asked → Result T Cause → Type 0
Works run request (Ok done) = TellsAll run.error_failures × MakesFile run request
Works run request (Err cause) = Fails run request cause
