-- Private: how rounds are gathered from commands, one after another.
use Rattle.std.specs.Prelude.{◌≡◌, ℕ, ◌+◌, ◌<◌, ◌≤◌, Bool, true, false, if◌then◌else◌, List, [], ◌∷◌, ◌++◌, length}
use Rattle.std.specs.Prelude.{drop, fold, Option, Result, Ok, Err}
use Rattle.std.specs.List.{flat_map}
use Rattle.std.specs.Str.{IsUtf8}
use Rattle.devices.specs.Lines.{lines}
use Rattle.script_text.specs.Commands.{Line}
use Rattle.script_text.specs.CommandValues.{command_list}
use Rattle.script_text.specs.Script.{Command, Load, Ask, Go, RoundValue, round_of, rounds_of, Says, saying_of}
use Rattle.script_text.specs.Script.{commands_from, load_count, ScriptValue, script_from, script_of, script}
use Rattle.script_text.specs.Texts.{most_script}

-- the rounds that have ended, the open one, and whether it has a load or a question
pub record Gathered : Type 0 where
  pub ended : List RoundValue
  pub current : RoundValue
  pub begun : Bool

-- a round without loads and questions
abbrev pub empty_round : RoundValue
empty_round = record { loads = []; questions = [] }

-- how many loads there are so far
abbrev pub loads_so_far : Gathered → ℕ
loads_so_far g = load_count g.ended + length g.current.loads

-- no rounds so far
abbrev pub nothing : Gathered
nothing = record { ended = []; current = empty_round; begun = false }

-- one round followed by another, as one
abbrev pub both : RoundValue → RoundValue → RoundValue
both a b = record { loads = a.loads ++ b.loads; questions = a.questions ++ b.questions }

-- one more command
abbrev pub gathered_with : Gathered → Command → Gathered
gathered_with g (Load load) = record {
  ended = g.ended;
  current = both g.current (round_of (Load load ∷ []));
  begun =
      true;
}
gathered_with g (Ask worker query) = record
    { ended = g.ended; current = both g.current (round_of (Ask worker query ∷ [])); begun = true }
gathered_with g Go = record { ended = g.ended ++ g.current ∷ []; current = empty_round; begun = false }

-- what is gathered from the lines of a script that say something
abbrev pub so_far : List (Option Command) → Gathered
so_far said = fold gathered_with nothing (flat_map command_list said)

-- the open round with what follows in it, and the rounds after it
abbrev pub onto_open : Gathered → List RoundValue → List RoundValue
onto_open g [] = if g.begun then g.current ∷ [] else []
onto_open g (round ∷ rounds) = both g.current round ∷ rounds

-- the rounds that have ended, and the open one if it has a load or a question
abbrev pub all_rounds : Gathered → List RoundValue
all_rounds g = g.ended ++ onto_open g []

-- the script with `workers` workers, if these commands follow
abbrev pub going_on : ℕ → Gathered → Result (List Command) ℕ → Result ScriptValue ℕ
going_on workers g (Ok commands) = Ok (record
    { workers = workers; rounds = g.ended ++ onto_open g (rounds_of commands) })
going_on workers g (Err bad) = Err bad

-- a line with this number was taken in, with its text: what follows it, and the number of the next line
pub record TakesIn (old new : Gathered) (saw : Option Line) (behind : List ℕ) (number : ℕ) (rest : List ℕ) (next : ℕ)
    : Type 0 where
  pub commands : List Command
  pub text : ℕ
  pub says : saying_of saw (lines behind) ≡ Says commands text
  pub gathered_are : new ≡ fold gathered_with old commands
  pub few : loads_so_far new ≤ loads_so_far old + 1
  pub behind_text : lines rest ≡ drop text (lines behind)
  pub enough : text ≤ length (lines behind)
  pub next_is : next ≡ number + 1 + text
  pub shorter : text + length rest ≤ length behind
  pub utf8 : IsUtf8 rest

-- the lines before this number say nothing, and `rest` is the text from that line on
pub record HasSkipped (text rest : List ℕ) (number : ℕ) : Type 0 where
  pub going : script text ≡ script_from number (lines rest)
  pub some : 0 < number
  pub bounded : number + length rest ≤ most_script + 1
  pub utf8 : IsUtf8 rest

-- the script has this number of workers, and its commands begin on the line with this number
pub record HasBegun (text : List ℕ) (workers : ℕ) (rest : List ℕ) (number : ℕ) : Type 0 where
  pub going : script text ≡ script_of workers (commands_from workers number 0 (lines rest))
  pub some : 0 < number
  pub bounded : number + length rest ≤ most_script + 1
  pub utf8 : IsUtf8 rest

-- the lines before this number were read, and `rest` is the text from that line on
pub record HasParsed (text : List ℕ) (workers : ℕ) (rounds : Gathered) (rest : List ℕ) (number : ℕ) : Type 0 where
  pub going : script text ≡ going_on workers rounds (commands_from workers number 0 (lines rest))
  pub few : loads_so_far rounds < number
  pub bounded : number + length rest ≤ most_script + 1
  pub utf8 : IsUtf8 rest
