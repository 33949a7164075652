-- What a script says: its workers and its rounds, or the first line that is no line of a script.
use Rattle.std.specs.Prelude.{ℕ, zero, suc, ◌+◌, ◌==◌, Bool, true, false, if◌then◌else◌, nat_le, List, [], ◌∷◌, ◌++◌}
use Rattle.std.specs.Prelude.{length, map, take, Option, Some, None, Result, Ok, Err}
use Rattle.std.specs.List.{concat, filter_map, sum_by}
use Rattle.live_set.specs.Asks.{QueryValue}
use Rattle.script_text.specs.ScriptLoads.{JobValue, Po, Mo}
use Rattle.devices.specs.Lines.{pieces, lines, without_end}
use Rattle.script_text.specs.LineFields.{fields}
use Rattle.script_text.specs.Commands.{Line, Blank, Loads, LoadsMo, Asks, Goes, is_blank, line_of, workers_line}

-- ---- commands

-- one more load, one more question, or the end of a round
pub data Command : Type 0 where
  Load : (load : JobValue) → Command
  Ask : (worker : ℕ) (query : QueryValue) → Command
  Go : Command

-- what a line says with the lines that follow it: its commands, and how many of these lines are its text; or that it is
-- bad
pub data Saying : Type 0 where
  Says : (commands : List Command) (text : ℕ) → Saying
  IsBad : Saying

-- the PO text of a load is the next `count` lines
abbrev pub saying_of : Option Line → List (List ℕ) → Saying
saying_of None behind = IsBad
saying_of (Some Blank) behind = Says [] 0
saying_of (Some (Loads domain locale options count)) behind =
    if nat_le count (length behind) then Says (Load (record {
      domain = domain;
      locale = locale;
      source = Po (concat (take count behind)) options;
    }) ∷ []) count else IsBad
saying_of (Some (LoadsMo domain locale bytes)) behind =
    Says (Load (record { domain = domain; locale = locale; source = Mo bytes }) ∷ []) 0
saying_of (Some (Asks worker query)) behind = Says (Ask worker query ∷ []) 0
saying_of (Some Goes) behind = Says (Go ∷ []) 0

-- these commands, and then those that are read from the lines after the text; or this line is the bad one
abbrev pub and_then : Saying → ℕ → (ℕ → Result (List Command) ℕ) → Result (List Command) ℕ
and_then IsBad number behind = Err number
and_then (Says commands text) number behind = in_front commands (behind text) where
  in_front : List Command → Result (List Command) ℕ → Result (List Command) ℕ
  in_front first (Ok rest) = Ok (first ++ rest)
  in_front first (Err bad) = Err bad

-- For this number of workers, the commands of the lines from this number on, or the first bad line. The first `text`
-- lines are a load's text.
abbrev pub commands_from : (workers number text : ℕ) → List (List ℕ) → Result (List Command) ℕ
commands_from workers number text [] = Ok []
commands_from workers number (suc text) (line ∷ rest) = commands_from workers (number + 1) text rest
commands_from workers number zero (line ∷ rest) = and_then (saying_of (line_of workers (without_end line)) rest) number
    (λ text. commands_from workers (number + 1) text rest)

-- ---- rounds

-- a question, and the number of the worker that is asked
pub record QuestionValue : Type 0 where
  pub worker : ℕ
  pub query : QueryValue

-- the loads and the questions of a round
pub record RoundValue : Type 0 where
  pub loads : List JobValue
  pub questions : List QuestionValue

-- the load of a command, if it is one
abbrev pub load_in : Command → Option JobValue
load_in (Load load) = Some load
load_in _ = None

-- the question of a command, if it is one
abbrev pub question_in : Command → Option QuestionValue
question_in (Ask worker query) = Some (record { worker = worker; query = query })
question_in _ = None

-- the round of these commands
abbrev pub round_of : List Command → RoundValue
round_of commands = record { loads = filter_map load_in commands; questions = filter_map question_in commands }

-- the query of a question, if it is for this worker
abbrev pub query_for : ℕ → QuestionValue → Option QueryValue
query_for worker question = if question.worker == worker then Some question.query else None

-- what this worker is asked, in order
abbrev pub queries_for : ℕ → List QuestionValue → List QueryValue
queries_for worker questions = filter_map (query_for worker) questions

-- the end of a round
abbrev pub is_go : Command → Bool
is_go Go = true
is_go _ = false

-- a round ends with `go`; the last one may lack it
abbrev pub rounds_of : List Command → List RoundValue
rounds_of commands = map round_of (pieces is_go commands)

-- how many loads some rounds have
abbrev pub load_count : List RoundValue → ℕ
load_count rounds = sum_by (λ (round : RoundValue). length round.loads) rounds

-- ---- the whole

-- how many workers there are, and the rounds
pub record ScriptValue : Type 0 where
  pub workers : ℕ
  pub rounds : List RoundValue

-- this number of workers with the rounds of these commands, or the first bad line
abbrev pub script_of : ℕ → Result (List Command) ℕ → Result ScriptValue ℕ
script_of workers (Ok commands) = Ok (record { workers = workers; rounds = rounds_of commands })
script_of workers (Err bad) = Err bad

-- The lines from this number on, if those before say nothing. The first that says something may give the number of
-- workers; otherwise there are two.
abbrev pub script_from : ℕ → List (List ℕ) → Result ScriptValue ℕ
script_from number [] = Ok (record { workers = 2; rounds = [] })
script_from number (line ∷ rest) =
    if is_blank (without_end line) then script_from (number + 1) rest else
    begins (workers_line (fields (without_end line)))
  where
    begins : Option ℕ → Result ScriptValue ℕ
    begins (Some workers) = script_of workers (commands_from workers (number + 1) 0 rest)
    begins None = script_of 2 (commands_from 2 number 0 (line ∷ rest))

-- what the lines of a text say, which are counted from 1
abbrev pub script : List ℕ → Result ScriptValue ℕ
script text = script_from 1 (lines text)
