-- What a run of `msgfmt` does (GNU gettext manual, "msgfmt Invocation").
use Rattle.std.specs.Prelude.{◌≡◌, ◌⊎◌, ℕ, List, Some, None, IsTrue}
use Rattle.std.specs.Io.KnownBytes.{Appends}
use Rattle.devices.specs.Devices.{InputSeen, OutputSeen, RisesBy}
use Rattle.catalogue.specs.MoFile.{spelling}
use Rattle.catalogue.specs.Meaning.{Means, Refuses}
use Rattle.catalogue.specs.declared.Compiled.{Compiled}
use Rattle.catalogue.specs.declared.LoadFault.{LoadFault}
use Rattle.msgfmt_words.specs.Words.{Asked, AreFaulty, AreTaken, AskForHelp, request_in}
use Rattle.msgfmt_steps.specs.RunDevices.{Change, FailsToRead, FailsToWrite, FilesSeen, IsUnwritten, Reads, TellsAll}
use Rattle.msgfmt_steps.specs.RunDevices.{Writes}
use Rattle.msgfmt_steps.specs.RunDevices.{is_standard}
use Rattle.msgfmt_steps.specs.declared.outcome.Cause.{Cause}
use Rattle.msgfmt_steps.specs.declared.outcome.Cause.TheVariants.{Words, NoInput, CannotRead, Refused, CannotWrite}
use Rattle.msgfmt_steps.specs.declared.outcome.Cause.TheVariants.{ErrorOutput, Memory}
use Rattle.msgfmt_steps.specs.declared.outcome.Status.{Status}
use Rattle.msgfmt_steps.specs.declared.outcome.Status.TheVariants.{Done, Failed}

-- a run, by its devices; of the error output only the count of failures is known
pub record Run : Type 0 where
  pub files : Change FilesSeen
  pub input : Change InputSeen
  pub output : Change OutputSeen
  pub error_failures : Change ℕ

-- nothing was read and nothing written
pub record IsUntouched (run : Run) : Type 0 where
  pub files : run.files.after ≡ run.files.before
  pub input : run.input.after ≡ run.input.before
  pub output : run.output.after ≡ run.output.before

-- ---- the work on what the arguments ask for

-- the text of INPUT compiles to this
pub record Compiles (run : Run) (request : Asked) (compiled : Compiled) : Type 0 where
  pub name : List ℕ
  pub input : request.input ≡ Some name
  pub text : List ℕ
  pub read : Reads (is_standard name) run.files.before run.input name text
  pub means : Means text request.options compiled

-- it compiles, and the one MO file of its catalogue was written to FILE, and nothing else
pub record MakesFile (run : Run) (request : Asked) : Type 0 where
  pub compiled : Compiled
  pub compiles : Compiles run request compiled
  pub written : Writes (is_standard request.output) run.files run.output request.output (spelling compiled.catalogue)

-- INPUT can't be read
pub record IsUnreadable (run : Run) (request : Asked) : Type 0 where
  pub name : List ℕ
  pub input : request.input ≡ Some name
  pub failed : FailsToRead (is_standard name) run.files run.input
  pub unwritten : IsUnwritten run.files run.output

-- the text of INPUT is refused
pub record IsRefused (run : Run) (request : Asked) (fault : LoadFault) : Type 0 where
  pub name : List ℕ
  pub input : request.input ≡ Some name
  pub text : List ℕ
  pub read : Reads (is_standard name) run.files.before run.input name text
  pub refuses : Refuses text request.options fault.kind fault.line
  pub unwritten : IsUnwritten run.files run.output

-- it compiles, and a warning can't be written: that comes before FILE, and only at the checked level
pub record FailsToWarn (run : Run) (request : Asked) : Type 0 where
  pub compiled : Compiled
  pub compiles : Compiles run request compiled
  pub checked : IsTrue request.options.checked
  pub unwritten : IsUnwritten run.files run.output

-- it compiles, and FILE can't be written
pub record IsUnwritable (run : Run) (request : Asked) : Type 0 where
  pub compiled : Compiled
  pub compiles : Compiles run request compiled
  pub failed : FailsToWrite (is_standard request.output) run.files run.output request.output

-- FILE is made, and the statistics are asked for
pub record MakesFileFirst (run : Run) (request : Asked) : Type 0 where
  pub statistics : IsTrue request.statistics
  pub makes : MakesFile run request

-- the work on what is asked for ended by this cause
abbrev pub Fails : Run → Asked → Cause → Type 0
Fails run request Words = ⊥
Fails run request NoInput = (request.input ≡ None) × IsUntouched run
Fails run request CannotRead = IsUnreadable run request
Fails run request (Refused fault) = IsRefused run request fault
Fails run request CannotWrite = IsUnwritable run request
Fails run request ErrorOutput =
    RisesBy 1 run.error_failures.before run.error_failures.after
    × (FailsToWarn run request ⊎ MakesFileFirst run request)
Fails run request Memory =
    IsUnwritten run.files run.output ⊎ (IsUnwritable run request ⊎ MakesFileFirst run request)

-- ---- a run

-- the arguments ask for the help text, which was written to standard output, and nothing else
pub record Helps (run : Run) (words : List (List ℕ)) : Type 0 where
  pub asks : AskForHelp words
  pub unread : run.input.after ≡ run.input.before
  pub no_file : run.files.after ≡ run.files.before
  pub text : List ℕ
  pub written : Appends run.output.before.bytes run.output.after.bytes text

-- the arguments ask for the help text, which can't be written
pub record HelpFails (run : Run) (words : List (List ℕ)) : Type 0 where
  pub asks : AskForHelp words
  pub unread : run.input.after ≡ run.input.before
  pub no_file : run.files.after ≡ run.files.before
  pub failed : RisesBy 1 run.output.before.failures run.output.after.failures

-- what a run of these arguments did, by its status
abbrev pub Runs : Run → List (List ℕ) → Status → Type 0
Runs run words Done =
    TellsAll run.error_failures × (Helps run words ⊎ (AreTaken words × MakesFile run (request_in words)))
Runs run words (Failed Words) = AreFaulty words × IsUntouched run
Runs run words (Failed CannotWrite) = HelpFails run words ⊎ (AreTaken words × Fails run (request_in words) CannotWrite)
Runs run words (Failed Memory) =
    IsUntouched run ⊎ (HelpFails run words ⊎ (AreTaken words × Fails run (request_in words) Memory))
Runs run words (Failed cause) = AreTaken words × Fails run (request_in words) cause
