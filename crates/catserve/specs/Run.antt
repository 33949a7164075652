-- What a run of a script does to the reader and the writer that it is given.
use Rattle.std.specs.Prelude.{◌≡◌, ◌⊎◌, ℕ, ◌+◌, ◌<◌, List, length, Result, Ok, Err}
use Rattle.std.specs.List.{sum_by}
use Rattle.std.specs.Io.KnownBytes.{Appends, Consumes}
use Rattle.devices.specs.Devices.{AppendsFront, InputSeen, IsFront, OutputSeen, RisesBy, most_reads}
use Rattle.script_text.specs.declared.fault.ScriptFault.{ScriptFault}
use Rattle.script_text.specs.declared.fault.ScriptKind.{ScriptKind}
use Rattle.script_text.specs.declared.fault.ScriptKind.TheVariants.{TooLarge, NotUtf8, BadLine, ReadFault, WriteFault}
use Rattle.script_text.specs.declared.fault.ScriptKind.TheVariants.{NoPlace, Closed, Join, Memory}
use Rattle.script_text.specs.Script.{RoundValue, ScriptValue}
use Rattle.script_text.specs.Texts.{IsRefused, IsScript, most_script}
use Rattle.catserve.specs.Rounds.{HasOutput}

-- the text was read: all that was left, or one byte more than a script may have if there are more
pub record ReadsText (i i' : InputSeen) (text : List ℕ) : Type 0 where
  pub front : IsFront (most_script + 1) i.left text
  pub consumed : Consumes i.left i'.left text

-- a read failed, or the bound on the reads was reached
abbrev pub FailsToRead : InputSeen → InputSeen → Type 0
FailsToRead i i' = RisesBy 1 i.failures i'.failures ⊎ RisesBy most_reads i.reads i'.reads

-- the text that was read has an output, and just that was written
pub record WritesOutput (i i' : InputSeen) (o o' : OutputSeen) : Type 0 where
  pub text : List ℕ
  pub read : ReadsText i i' text
  pub output : List ℕ
  pub is : HasOutput text output
  pub written : Appends o.bytes o'.bytes output

-- the text that was read is refused for this, at this line, and nothing was written
pub record RefusesText (i i' : InputSeen) (o o' : OutputSeen) (kind : ScriptKind) (line : ℕ) : Type 0 where
  pub text : List ℕ
  pub read : ReadsText i i' text
  pub refused : IsRefused text kind line
  pub unwritten : o' ≡ o

-- the script can't be read, and nothing was written
pub record IsUnreadable (i i' : InputSeen) (o o' : OutputSeen) : Type 0 where
  pub failed : FailsToRead i i'
  pub unwritten : o' ≡ o

-- the text that was read has an output, and only a prefix of it could be written
pub record IsUnwritable (i i' : InputSeen) (o o' : OutputSeen) : Type 0 where
  pub text : List ℕ
  pub read : ReadsText i i' text
  pub output : List ℕ
  pub is : HasOutput text output
  pub front : AppendsFront o.bytes o'.bytes output
  pub failed : RisesBy 1 o.failures o'.failures

-- the text that was read is a script, which wasn't played to its end, and nothing was written
pub record StopsScript (i i' : InputSeen) (o o' : OutputSeen) : Type 0 where
  pub text : List ℕ
  pub read : ReadsText i i' text
  pub value : ScriptValue
  pub is : IsScript text value
  pub unwritten : o' ≡ o

-- how many questions some rounds have
abbrev pub question_count : List RoundValue → ℕ
question_count rounds = sum_by (λ (round : RoundValue). length round.questions) rounds

-- A run fails for this, at this line. After it ran out of memory nothing was written either. Only a script that has a
-- question finds its store closed, and no thread is ever missing.
abbrev pub Fails : InputSeen → InputSeen → OutputSeen → OutputSeen → ScriptKind → ℕ → Type 0
Fails i i' o o' TooLarge line = RefusesText i i' o o' TooLarge line
Fails i i' o o' NotUtf8 line = RefusesText i i' o o' NotUtf8 line
Fails i i' o o' BadLine line = RefusesText i i' o o' BadLine line
Fails i i' o o' ReadFault line = IsUnreadable i i' o o' × (line ≡ 0)
Fails i i' o o' WriteFault line = IsUnwritable i i' o o' × (line ≡ 0)
Fails i i' o o' Memory line = (o' ≡ o) × (line ≡ 0)
Fails i i' o o' NoPlace line = StopsScript i i' o o' × (line ≡ 0)
Fails i i' o o' Closed line = (stops : StopsScript i i' o o') × (0 < question_count stops.value.rounds) × (line ≡ 0)
Fails i i' o o' Join line = ⊥

-- what a run did, by its answer
abbrev pub Runs : {T : Type 0} → InputSeen → InputSeen → OutputSeen → OutputSeen → Result T ScriptFault → Type 0
Runs i i' o o' (Ok _) = WritesOutput i i' o o'
Runs i i' o o' (Err fault) = Fails i i' o o' fault.kind fault.line
