-- The laws: a text has one output, or a fault, and the output of its first rounds is a prefix of its output.
use Rattle.std.specs.Prelude.{◌≡◌, ◌⊎◌, ℕ, ◌<◌, List, [], ◌++◌, length}
use Rattle.script_text.specs.Script.{RoundValue, ScriptValue}
use Rattle.script_text.specs.Texts.{most_script, IsScript, IsUndecodable, HasBadLine}
use Rattle.catserve.specs.Rounds.{HasOutput, PlaysAll}

-- a text has one output at most
abbrev pub HasOneOutput : Type 0
HasOneOutput = (text output other : List ℕ) → HasOutput text output → HasOutput text other → output ≡ other

-- no text is without an output or a fault: it is too large, isn't UTF-8, or has a bad line
abbrev pub HasSomeOutput : Type 0
HasSomeOutput = (text : List ℕ) → ((output : List ℕ) → ¬ HasOutput text output)
    → ¬ ¬ ((most_script < length text) ⊎ (IsUndecodable text ⊎ ((line : ℕ) × HasBadLine text line)))

-- the first rounds of a text that has an output have one
abbrev pub HaveFirstOutput : Type 0
HaveFirstOutput = (text output : List ℕ) (value : ScriptValue) (rounds more : List RoundValue) → HasOutput text output
    → IsScript text value → value.rounds ≡ rounds ++ more
    → (first : List ℕ) × PlaysAll value.workers [] rounds first

-- and the output of its first rounds is a prefix of its output
abbrev pub IsInFront : Type 0
IsInFront = (text output : List ℕ) (value : ScriptValue) (rounds more : List RoundValue) (first : List ℕ)
    → HasOutput text output → IsScript text value → value.rounds ≡ rounds ++ more
    → PlaysAll value.workers [] rounds first → (rest : List ℕ) × (output ≡ first ++ rest)
