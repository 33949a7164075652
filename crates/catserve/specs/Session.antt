-- What a session does: it is a script that is answered round by round, while it comes.
use Rattle.std.specs.Prelude.{◌≡◌, ◌⊎◌, ℕ, ◌+◌, ◌<◌, ◌≤◌, Bool, true, false, List, [], ◌∷◌, ◌++◌, length, take, codes}
use Rattle.std.specs.Prelude.{Option, Some, None, Result, Ok, Err}
use Rattle.std.specs.List.{concat}
use Rattle.std.specs.Str.{IsUtf8}
use Rattle.std.specs.Io.KnownBytes.{Appends, Consumes, IsAtEnd}
use Rattle.devices.specs.Devices.{AppendsFront, InputSeen, OutputSeen, RisesBy}
use Rattle.devices.specs.Logs.{AnswersFirst, Event, Grows, Log}
use Rattle.catalogue.specs.declared.Options.{Options}
use Rattle.devices.specs.Lines.{lines, without_end}
use Rattle.devices.specs.Incoming.{Incoming, EndsLines, LacksEnd}
use Rattle.script_text.specs.Commands.{Loads, line_of}
use Rattle.script_text.specs.Script.{RoundValue, ScriptValue, commands_from, script_from, script_of}
use Rattle.script_text.specs.Texts.{most_script}
use Rattle.script_text.specs.declared.fault.ScriptKind.{ScriptKind}
use Rattle.script_text.specs.declared.fault.ScriptKind.TheVariants.{TooLarge, NotUtf8, BadLine, ReadFault, WriteFault}
use Rattle.script_text.specs.declared.fault.ScriptKind.TheVariants.{NoPlace, Closed, Join, Memory}
use Rattle.catserve.specs.declared.session_fault.SessionFault.{SessionFault}
use Rattle.catserve.specs.Rounds.{PlaysAll}
use Rattle.catserve.specs.Run.{FailsToRead}

-- ---- what the lines mean

-- the lines of a session say what those of a script do; the number of workers may be given apart from them
abbrev pub session_script : Option ℕ → List (List ℕ) → Result ScriptValue ℕ
session_script None lines = script_from 1 lines
session_script (Some workers) lines = script_of workers (commands_from workers 1 0 lines)

-- the line that ends a round
abbrev pub round_end : List ℕ
round_end = codes "go" ++ 10 ∷ []

-- for this number of workers these rounds have ended in the lines: with one more `go` there is one round more
pub record HaveEnded (given : Option ℕ) (front : List (List ℕ)) (workers : ℕ) (rounds : List RoundValue) : Type 0 where
  pub last : RoundValue
  pub says : session_script given (front ++ round_end ∷ [])
      ≡ Ok (record { workers = workers; rounds = rounds ++ last ∷ [] })

-- ---- what was read, and what was written

-- 2 ^ 63: a session may have as many lines
abbrev pub most_lines : ℕ
most_lines = 9223372036854775808

-- this may follow what was read: nothing, if the input has ended
abbrev pub MayFollow : Bool → List ℕ → Type 0
MayFollow ended text = ended ≡ true → text ≡ []

-- The session has answered the rounds that have ended in the lines `front`, the first ones of its input, and has
-- written nothing else. What it has read is a text, whose part after those lines is `rest`, and what a fault lost.
pub record Stops (given : Option ℕ) (i i' : InputSeen) (o o' : OutputSeen) (lost : List ℕ) : Type 0 where
  pub front : List (List ℕ)
  pub text : List ℕ
  pub rest : List ℕ
  pub ended : Bool
  pub read : Consumes i.left i'.left (text ++ lost)
  pub at_end : ended ≡ true → IsAtEnd i'.left
  pub whole : text ≡ concat front ++ rest
  pub lines_are : (more : List ℕ) → MayFollow ended more → lines (text ++ more) ≡ front ++ lines (rest ++ more)
  pub workers : ℕ
  pub rounds : List RoundValue
  pub ended_are : HaveEnded given front workers rounds
  pub output : List ℕ
  pub plays : PlaysAll workers [] rounds output
  pub written : Appends o.bytes o'.bytes output

-- the line after the front, by its number
abbrev pub IsNext : List (List ℕ) → ℕ → Type 0
IsNext front line = line ≡ length front + 1

-- ---- how a session ends

-- the input has ended, and the output of all its rounds was written
pub record AnswersAll (given : Option ℕ) (i i' : InputSeen) (o o' : OutputSeen) : Type 0 where
  pub text : List ℕ
  pub read : Consumes i.left i'.left text
  pub at_end : IsAtEnd i'.left
  pub utf8 : IsUtf8 text
  pub value : ScriptValue
  pub says : session_script given (lines text) ≡ Ok value
  pub output : List ℕ
  pub plays : PlaysAll value.workers [] value.rounds output
  pub written : Appends o.bytes o'.bytes output

-- the next line is bad, and the first that is, whatever follows
pub record MeetsBadLine (given : Option ℕ) (i i' : InputSeen) (o o' : OutputSeen) (line : ℕ) : Type 0 where
  pub stop : Stops given i i' o o' []
  pub line_is : IsNext stop.front line
  pub bad : (more : List ℕ) → MayFollow stop.ended more → session_script given (lines (stop.text ++ more)) ≡ Err line

-- the next line, with the lines that are its text, isn't UTF-8
pub record MeetsUndecodable (given : Option ℕ) (i i' : InputSeen) (o o' : OutputSeen) (line : ℕ) : Type 0 where
  pub stop : Stops given i i' o o' []
  pub line_is : IsNext stop.front line
  pub raw : List (List ℕ)
  pub behind : List ℕ
  pub begins : stop.rest ≡ concat raw ++ behind
  pub cut : (more : List ℕ) → MayFollow stop.ended more
      → lines (stop.text ++ more) ≡ (stop.front ++ raw) ++ lines (behind ++ more)
  pub undecodable : ¬ IsUtf8 (concat raw)

-- the last lines of the front, in which no round has ended
pub record IsOpenRound (given : Option ℕ) (front round : List (List ℕ)) : Type 0 where
  pub before : List (List ℕ)
  pub cut : front ≡ before ++ round
  pub rounds : List RoundValue
  pub first : ℕ
  pub ended_before : HaveEnded given before first rounds
  pub workers : ℕ
  pub ended_are : HaveEnded given front workers rounds

-- the open round has more bytes than a script may have; or the session has more lines than it may have
pub record MeetsTooMuch (given : Option ℕ) (i i' : InputSeen) (o o' : OutputSeen) (line : ℕ) : Type 0 where
  pub stop : Stops given i i' o o' []
  pub line_is : IsNext stop.front line
  pub round : List (List ℕ)
  pub is_open : IsOpenRound given stop.front round
  pub over : (most_script < length (concat round ++ stop.rest)) ⊎ (most_lines ≤ line)

-- the session ends for another reason
pub record StopsEarly (given : Option ℕ) (i i' : InputSeen) (o o' : OutputSeen) : Type 0 where
  pub lost : List ℕ
  pub stop : Stops given i i' o o' lost

-- the rounds that have ended in some first lines were answered, and a prefix of the next round's lines was written
pub record BreaksOff (given : Option ℕ) (i i' : InputSeen) (o o' : OutputSeen) : Type 0 where
  pub mid : OutputSeen
  pub stop : Stops given i i' o mid []
  pub lines : List ℕ
  pub plays : PlaysAll stop.workers [] (stop.rounds ++ stop.ended_are.last ∷ []) (stop.output ++ lines)
  pub written : AppendsFront mid.bytes o'.bytes lines

-- no store was opened: no round has ended, and nothing was written
pub record NeverOpens (given : Option ℕ) (i i' : InputSeen) (o o' : OutputSeen) : Type 0 where
  pub early : StopsEarly given i i' o o'
  pub none_ended : early.stop.rounds ≡ []
  pub unwritten : o' ≡ o

-- the open round has a question, and the store was closed
pub record FindsClosed (given : Option ℕ) (i i' : InputSeen) (o o' : OutputSeen) : Type 0 where
  pub early : StopsEarly given i i' o o'
  pub asked : 0 < length early.stop.ended_are.last.questions

-- why a session ends early
abbrev pub EndsFor : Option ℕ → InputSeen → InputSeen → OutputSeen → OutputSeen → ScriptKind → ℕ → Type 0
EndsFor given i i' o o' TooLarge line = MeetsTooMuch given i i' o o' line
EndsFor given i i' o o' NotUtf8 line = MeetsUndecodable given i i' o o' line
EndsFor given i i' o o' BadLine line = MeetsBadLine given i i' o o' line
EndsFor given i i' o o' ReadFault line = StopsEarly given i i' o o' × FailsToRead i i' × (line ≡ 0)
EndsFor given i i' o o' WriteFault line = BreaksOff given i i' o o' × RisesBy 1 o.failures o'.failures × (line ≡ 0)
EndsFor given i i' o o' NoPlace line = NeverOpens given i i' o o' × (line ≡ 0)
EndsFor given i i' o o' Closed line = FindsClosed given i i' o o' × (line ≡ 0)
EndsFor given i i' o o' Join line = ⊥
EndsFor given i i' o o' Memory line = StopsEarly given i i' o o' × (line ≡ 0)

-- what a session did, by its answer
abbrev pub Converses : {T : Type 0} → Option ℕ → InputSeen → InputSeen → OutputSeen → OutputSeen
    → Result T SessionFault → Type 0
Converses given i i' o o' (Ok _) = AnswersAll given i i' o o'
Converses given i i' o o' (Err fault) = EndsFor given i i' o o' fault.kind fault.line

-- ---- when a session answers

-- bytes of an input that goes on
abbrev pub rest_to_come : List ℕ → Incoming
rest_to_come left = record { left = left; ended = false }

-- the first line is a load, and fewer lines of its text have come than it counts
pub record IsOpenLoad (workers : ℕ) (left : List ℕ) : Type 0 where
  pub end : ℕ
  pub first : EndsLines 1 (rest_to_come left) 0 end
  pub domain : List ℕ
  pub locale : List ℕ
  pub options : Options
  pub count : ℕ
  pub says : line_of workers (without_end (take end left)) ≡ Some (Loads domain locale options count)
  pub lines : ℕ
  pub fewer : lines < count
  pub text_end : ℕ
  pub ends : EndsLines lines (rest_to_come left) end text_end
  pub lacks : LacksEnd left text_end (length left)

-- no whole line has come, or a load without its whole text: no round ends here
abbrev pub IsOpen : ℕ → List ℕ → Type 0
IsOpen workers left = LacksEnd left 0 (length left) ⊎ IsOpenLoad workers left

-- The output is that of the rounds that have ended in the text, and of no other round: they have ended in its lines
-- `front`, and no round ends in the rest.
pub record IsAnswered (given : Option ℕ) (text output : List ℕ) : Type 0 where
  pub front : List (List ℕ)
  pub rest : List ℕ
  pub whole : text ≡ concat front ++ rest
  pub lines_are : (more : List ℕ) → lines (text ++ more) ≡ front ++ lines (rest ++ more)
  pub workers : ℕ
  pub rounds : List RoundValue
  pub ended_are : HaveEnded given front workers rounds
  pub plays : PlaysAll workers [] rounds output
  pub is_open : IsOpen workers rest

-- before each read, the output of all rounds that had ended was written, and nothing else: no answer is due while the
-- session waits
pub record AnswersInTime (given : Option ℕ) (log log' : Log) : Type 0 where
  pub events : List Event
  pub logged : Grows log log' events
  pub first : AnswersFirst (IsAnswered given) events
