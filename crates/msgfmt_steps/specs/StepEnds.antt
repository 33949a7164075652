-- How the steps of a run end.
use Rattle.std.specs.Prelude.{◌≡◌, ◌⊎◌, ℕ, ⊤, Bool, List, Result, Ok, Err}
use Rattle.std.specs.Io.KnownBytes.{Appends}
use Rattle.devices.specs.Devices.{RisesBy, InputSeen, OutputSeen}
use Rattle.msgfmt_words.specs.declared.words.WordsFault.{WordsFault}
use Rattle.msgfmt_words.specs.declared.words.WordsFault.TheVariants.{Help, Faulty}
use Rattle.msgfmt_words.specs.declared.words.WordsFault.TheVariants as fault
use Rattle.msgfmt_steps.specs.RunDevices.{Change, FailsToRead, FailsToWrite, FilesSeen, IsUnwritten, TellsAll}
use Rattle.msgfmt_steps.specs.declared.outcome.Cause.{Cause}
use Rattle.msgfmt_steps.specs.declared.outcome.Cause.TheVariants.{Words, CannotRead, CannotWrite, ErrorOutput, Memory}
use Rattle.msgfmt_steps.specs.declared.outcome.Status.{Status}
use Rattle.msgfmt_steps.specs.declared.outcome.Status.TheVariants.{Done, Failed}

-- why INPUT wasn't read
abbrev pub EndsReading : Bool → Change FilesSeen → Change InputSeen → Cause → Type 0
EndsReading standard files input CannotRead = FailsToRead standard files input
EndsReading standard files input Memory = ⊤
EndsReading standard files input _ = ⊥

-- why a line wasn't written
abbrev pub EndsTelling : Change ℕ → Cause → Type 0
EndsTelling errors ErrorOutput = RisesBy 1 errors.before errors.after
EndsTelling errors Memory = ⊤
EndsTelling errors _ = ⊥

-- why FILE wasn't written
abbrev pub EndsWriting : Bool → Change FilesSeen → Change OutputSeen → List ℕ → Cause → Type 0
EndsWriting standard files output name CannotWrite = FailsToWrite standard files output name
EndsWriting standard files output name Memory = IsUnwritten files output
EndsWriting standard files output name _ = ⊥

-- work that was done has nothing to report; a failure was reported on the error output, or memory for its line ran out
abbrev pub Tells : {T : Type 0} → Change ℕ → Result T Cause → Status → Type 0
Tells errors (Ok done) status = TellsAll errors × (status ≡ Done)
Tells errors (Err cause) status = (status ≡ Failed cause) ⊎ (status ≡ Failed Memory)

-- arguments that give no request: the help text was written, or they are faulty, or memory ran out
abbrev pub AnswersWords : {T : Type 0} → Change OutputSeen → WordsFault → Result T Cause → Type 0
AnswersWords output (Help text) (Ok done) = (text : List ℕ) × Appends output.before.bytes output.after.bytes text
AnswersWords output (Help text) (Err CannotWrite) = RisesBy 1 output.before.failures output.after.failures
AnswersWords output Faulty (Err Words) = output.after ≡ output.before
AnswersWords output fault.Memory (Err Memory) = output.after ≡ output.before
AnswersWords output _ _ = ⊥
