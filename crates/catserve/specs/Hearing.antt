-- Private: how a session hears its input, line by line.
use Rattle.std.specs.Prelude.{◌≡◌, ◌⊎◌, ⊤, ℕ, ◌+◌, ◌<◌, ◌≤◌, true, false, List, [], ◌∷◌, ◌++◌, length}
use Rattle.std.specs.Prelude.{take, Option, Some, None, IfSome, IfNone, Result, Ok, Err}
use Rattle.std.specs.List.{concat}
use Rattle.std.specs.Str.{IsUtf8}
use Rattle.std.specs.Io.KnownBytes.{Consumes, IsAtEnd}
use Rattle.devices.specs.Devices.{InputSeen, RisesBy}
use Rattle.devices.specs.Lines.{lines, without_end}
use Rattle.devices.specs.Incoming.{Incoming, MayCome, EndsLine, LacksLines}
use Rattle.devices.specs.declared.incoming.LineInputFault.{LineInputFault}
use Rattle.devices.specs.declared.incoming.LineInputFault.TheVariants as line_fault
use Rattle.script_text.specs.Commands.{is_blank, line_of, workers_line}
use Rattle.script_text.specs.CommandValues.{command_with, command_list}
use Rattle.script_text.specs.LineValues.{line_value}
use Rattle.script_text.specs.LineFields.{fields}
use Rattle.script_text.specs.Script.{Command, Go, Says, and_then, commands_from, script_from, script_of}
use Rattle.script_text.specs.Texts.{most_script}
use Rattle.script_text.specs.declared.fault.ScriptKind.{ScriptKind}
use Rattle.script_text.specs.declared.fault.ScriptKind.TheVariants.{TooLarge, NotUtf8, BadLine, ReadFault, Memory}
use Rattle.catserve.specs.declared.session_fault.SessionFault.{SessionFault}
use Rattle.catserve.specs.declared.said.PreambleLine.{PreambleLine}
use Rattle.catserve.specs.declared.said.PreambleLine.TheVariants as preamble_line
use Rattle.catserve.specs.declared.hearing.Heard.{Heard}
use Rattle.catserve.specs.Run.{FailsToRead}
use Rattle.catserve.specs.Session.{most_lines, round_end, session_script as meant}

-- the command of what was heard
abbrev pub command_of : Heard → Option Command
command_of heard = command_with (line_value heard.line) heard.text.items

-- as a list
abbrev pub commands_of : Heard → List Command
commands_of heard = command_list (command_of heard)

-- what has come of the input and isn't taken, the number of the next line, and how many bytes the open round has so far
pub record HearingValue : Type 0 where
  pub input : Incoming
  pub number : ℕ
  pub size : ℕ

-- nothing has come
abbrev pub silence : Incoming
silence = record { left = []; ended = false }

-- the counts of a reader go up
pub record CountsOn (i i' : InputSeen) : Type 0 where
  pub later : i.failures ≤ i'.failures
  pub reads : RisesBy 0 i.reads i'.reads

-- more of an input was read, and these lines were taken off
pub record HasTaken (i i' : InputSeen) (x y : Incoming) (front : List (List ℕ)) : Type 0 where
  pub more : List ℕ
  pub read : Consumes i.left i'.left more
  pub may : (text : List ℕ) → MayCome y text → MayCome x (more ++ text)
  pub cut : (text : List ℕ) → MayCome y text → lines ((x.left ++ more) ++ text) ≡ front ++ lines (y.left ++ text)
  pub whole : x.left ++ more ≡ concat front ++ y.left
  pub at_end : (x.ended ≡ true → IsAtEnd i.left) → y.ended ≡ true → IsAtEnd i'.left
  pub counts : CountsOn i i'

-- more was read, and nothing was taken off; the last of what was read may be lost
pub record HasGot (i i' : InputSeen) (x y : Incoming) (lost : List ℕ) : Type 0 where
  pub more : List ℕ
  pub read : Consumes i.left i'.left (more ++ lost)
  pub behind : y.left ≡ x.left ++ more
  pub may : (text : List ℕ) → MayCome y text → MayCome x (more ++ text)
  pub at_end : (x.ended ≡ true → IsAtEnd i.left) → y.ended ≡ true → IsAtEnd i'.left
  pub counts : CountsOn i i'

-- lines from this number on say these commands, whatever follows them
pub record HasSaid (workers number : ℕ) (raw : List (List ℕ)) (commands : List Command) : Type 0 where
  pub some : 0 < length raw
  pub says : (behind : List (List ℕ)) → commands_from workers number 0 (raw ++ behind)
      ≡ and_then (Says commands 0) number (λ text. commands_from workers (number + length raw) text behind)
  pub utf8 : IsUtf8 (concat raw)

-- how many bytes the open round has after these commands, if it had `size` bytes with their lines
abbrev pub size_behind : List Command → ℕ → ℕ
size_behind (Go ∷ commands) size = 0
size_behind _ size = size

-- lines were heard that say these commands
pub record Hears (i i' : InputSeen) (workers : ℕ) (x y : HearingValue) (commands : List Command) : Type 0 where
  pub raw : List (List ℕ)
  pub taken : HasTaken i i' x.input y.input raw
  pub said : HasSaid workers x.number raw commands
  pub few : x.number < most_lines
  pub number : y.number ≡ x.number + length raw
  pub size : y.size ≡ size_behind commands (x.size + length (concat raw))

-- more was read, and else all is as it was
pub record Stays (i i' : InputSeen) (x y : HearingValue) (lost : List ℕ) : Type 0 where
  pub got : HasGot i i' x.input y.input lost
  pub number : y.number ≡ x.number
  pub size : y.size ≡ x.size

-- the input has ended
pub record HearsEnd (i i' : InputSeen) (x y : HearingValue) : Type 0 where
  pub stays : Stays i i' x y []
  pub left : y.input.left ≡ []
  pub ended : y.input.ended ≡ true

-- ---- why nothing was heard

-- the next line is bad, whatever comes
pub record HearsBad (i i' : InputSeen) (workers : ℕ) (x y : HearingValue) (line : ℕ) : Type 0 where
  pub stays : Stays i i' x y []
  pub line_is : line ≡ x.number
  pub bad : (text : List ℕ) → MayCome y.input text
      → commands_from workers x.number 0 (lines (y.input.left ++ text)) ≡ Err x.number

-- it isn't UTF-8, with the lines that are its text
pub record HearsUndecodable (i i' : InputSeen) (x y : HearingValue) (line : ℕ) : Type 0 where
  pub stays : Stays i i' x y []
  pub line_is : line ≡ x.number
  pub raw : List (List ℕ)
  pub behind : List ℕ
  pub begins : y.input.left ≡ concat raw ++ behind
  pub cut : (text : List ℕ) → MayCome y.input text → lines (y.input.left ++ text) ≡ raw ++ lines (behind ++ text)
  pub undecodable : ¬ IsUtf8 (concat raw)

-- the round is too large, or there are too many lines
pub record HearsTooMuch (i i' : InputSeen) (x y : HearingValue) (line : ℕ) : Type 0 where
  pub stays : Stays i i' x y []
  pub line_is : line ≡ x.number
  pub over : (most_script < x.size + length y.input.left) ⊎ (most_lines ≤ x.number)

-- the round or the session is too large, the input can't be read, or memory ran out
abbrev pub HearsNothing : InputSeen → InputSeen → HearingValue → HearingValue → ScriptKind → ℕ → Type 0
HearsNothing i i' x y TooLarge line = HearsTooMuch i i' x y line
HearsNothing i i' x y ReadFault line = ((lost : List ℕ) × Stays i i' x y lost) × FailsToRead i i' × (line ≡ 0)
HearsNothing i i' x y Memory line = ((lost : List ℕ) × Stays i i' x y lost) × (line ≡ 0)
HearsNothing i i' x y _ line = ⊥

-- why no line was heard, if a bad line means this
abbrev pub HearsNoLine : (ℕ → Type 0) → InputSeen → InputSeen → HearingValue → HearingValue → ScriptKind → ℕ → Type 0
HearsNoLine Bad i i' x y NotUtf8 line = HearsUndecodable i i' x y line
HearsNoLine Bad i i' x y BadLine line = Bad line
HearsNoLine Bad i i' x y kind line = HearsNothing i i' x y kind line

-- why nothing was heard
abbrev pub HearsNone : InputSeen → InputSeen → ℕ → HearingValue → HearingValue → ScriptKind → ℕ → Type 0
HearsNone i i' workers x y = HearsNoLine (HearsBad i i' workers x y) i i' x y

-- what a line before the first command is
abbrev pub IsPreambleLine : List ℕ → PreambleLine → Type 0
IsPreambleLine line preamble_line.NotUtf8 = ¬ IsUtf8 line
IsPreambleLine line preamble_line.Blank = IsUtf8 line × (is_blank (without_end line) ≡ true)
IsPreambleLine line (preamble_line.Workers count) = IsUtf8 line × (is_blank (without_end line) ≡ false)
    × (workers_line (fields (without_end line)) ≡ Some count)
IsPreambleLine line preamble_line.Other = IsUtf8 line × (is_blank (without_end line) ≡ false)
    × (workers_line (fields (without_end line)) ≡ None)

-- where the next line ends, if one begins; else the input has ended
pub record EndsNext (i i' : InputSeen) (x y : HearingValue) (end : Option ℕ) : Type 0 where
  pub stays : Stays i i' x y []
  pub line : IfSome end (λ place. EndsLine y.input 0 place × (x.size + place ≤ most_script))
  pub none : IfNone end ((y.input.ended ≡ true) × (length y.input.left ≡ 0))
  pub few : x.number < most_lines

-- the line that ends there was heard, and the lines of its text
pub record HearsText (i i' : InputSeen) (x y : HearingValue) (end count : ℕ) (bytes : List ℕ) : Type 0 where
  pub texts : List (List ℕ)
  pub counted : length texts ≡ count
  pub bytes_are : bytes ≡ concat texts
  pub taken : HasTaken i i' x.input y.input (take end x.input.left ∷ texts)
  pub utf8 : IsUtf8 (concat (take end x.input.left ∷ texts))
  pub number : y.number ≡ x.number + (1 + count)
  pub size : y.size ≡ x.size + length (concat (take end x.input.left ∷ texts))

-- fewer lines than a load counts follow the line that ends there
pub record LacksText (i i' : InputSeen) (x y : HearingValue) (end count : ℕ) : Type 0 where
  pub stays : Stays i i' x y []
  pub fewer : LacksLines count y.input end

-- why the text wasn't heard
abbrev pub HearsNoText : InputSeen → InputSeen → HearingValue → HearingValue → ℕ → ℕ → ScriptKind → ℕ → Type 0
HearsNoText i i' x y end count = HearsNoLine (λ line. LacksText i i' x y end count × (line ≡ x.number)) i i' x y

-- the fault of an input as that of a session whose next line has this number
abbrev pub FailsFor : LineInputFault → ℕ → SessionFault → Type 0
FailsFor line_fault.TooLong number fault = fault ≡ record { kind = TooLarge; line = number }
FailsFor line_fault.Unreadable number fault = fault ≡ record { kind = ReadFault; line = 0 }
FailsFor line_fault.Memory number fault = fault ≡ record { kind = Memory; line = 0 }

-- why a session with this number of workers doesn't understand the line
abbrev pub IsUnsaid : ℕ → List ℕ → ScriptKind → Type 0
IsUnsaid workers line NotUtf8 = ¬ IsUtf8 line
IsUnsaid workers line BadLine = line_of workers (without_end line) ≡ None
IsUnsaid workers line Memory = ⊤
IsUnsaid workers line _ = ⊥

-- the line of a fault at the line with this number
abbrev pub line_of_kind : ScriptKind → ℕ → ℕ
line_of_kind Memory number = 0
line_of_kind _ number = number

-- what was heard, or why nothing was
abbrev pub HearsOne : InputSeen → InputSeen → ℕ → HearingValue → HearingValue
    → Result (Option Heard) SessionFault → Type 0
HearsOne i i' workers x y (Ok (Some thing)) = Hears i i' workers x y (commands_of thing)
HearsOne i i' workers x y (Ok None) = HearsEnd i i' x y
HearsOne i i' workers x y (Err fault) = HearsNone i i' workers x y fault.kind fault.line

-- ---- the preamble of a session

-- a session whose input wasn't read
abbrev pub unheard_session : HearingValue
unheard_session = record { input = silence; number = 1; size = 0 }

-- lines before the first command that say nothing
pub record HasPassed (i i' : InputSeen) (x y : HearingValue) (front : List (List ℕ)) : Type 0 where
  pub taken : HasTaken i i' x.input y.input front
  pub passes : (behind : List (List ℕ)) → script_from x.number (front ++ behind) ≡ script_from y.number behind
  pub number : y.number ≡ x.number + length front
  pub size : y.size ≡ x.size + length (concat front)
  pub utf8 : IsUtf8 (concat front)

-- the preamble of a session couldn't be heard whole; no line of it is bad
pub record FailsInPreamble (i i' : InputSeen) (kind : ScriptKind) (line : ℕ) : Type 0 where
  pub mid : InputSeen
  pub y : HearingValue
  pub z : HearingValue
  pub front : List (List ℕ)
  pub passed : HasPassed i mid unheard_session y front
  pub none : HearsNoLine (λ line. ⊥) mid i' y z kind line

-- two lists of lines have equal first lines, or both are empty
abbrev pub BeginAlike : List (List ℕ) → List (List ℕ) → Type 0
BeginAlike [] [] = ⊤
BeginAlike (line ∷ lines) (other ∷ others) = line ≡ other
BeginAlike _ _ = ⊥

-- lines that begin as those do which come, or the end of a round alone
abbrev pub Follows : Incoming → List (List ℕ) → Type 0
Follows input behind = (behind ≡ round_end ∷ []) ⊎ ((text : List ℕ) × MayCome input text
    × BeginAlike behind (lines (input.left ++ text)))

-- the session has this number of workers, and its commands begin after its first lines
pub record Begins (given : Option ℕ) (i i' : InputSeen) (y : HearingValue) (workers : ℕ) : Type 0 where
  pub front : List (List ℕ)
  pub taken : HasTaken i i' silence y.input front
  pub going : (behind : List (List ℕ)) → Follows y.input behind
      → meant given (front ++ behind) ≡ script_of workers (commands_from workers y.number 0 behind)
  pub number : y.number ≡ length front + 1
  pub size : y.size ≡ length (concat front)
  pub utf8 : IsUtf8 (concat front)
