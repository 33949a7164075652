-- What a text is as a script: its workers and its rounds, or a refusal.
use Rattle.std.specs.Prelude.{◌≡◌, ⊤, ℕ, ◌<◌, ◌≤◌, List, length, Ok, Err}
use Rattle.std.specs.Str.{IsUtf8}
use Rattle.script_text.specs.declared.fault.ScriptFault.{ScriptFault}
use Rattle.script_text.specs.declared.fault.ScriptKind.{ScriptKind}
use Rattle.script_text.specs.declared.fault.ScriptKind.TheVariants.{TooLarge, NotUtf8, BadLine, Memory}
use Rattle.script_text.specs.Script.{ScriptValue, script}

-- 64 MiB
abbrev pub most_script : ℕ
most_script = 67108864

-- the text isn't too large, and is UTF-8
pub record IsReadable (text : List ℕ) : Type 0 where
  pub size : length text ≤ most_script
  pub utf8 : IsUtf8 text

-- the text is this script
pub record IsScript (text : List ℕ) (value : ScriptValue) : Type 0 where
  pub readable : IsReadable text
  pub says : script text ≡ Ok value

-- a line of the text is bad, and this is the first one
pub record HasBadLine (text : List ℕ) (line : ℕ) : Type 0 where
  pub readable : IsReadable text
  pub bad : script text ≡ Err line

-- the text isn't UTF-8
pub record IsUndecodable (text : List ℕ) : Type 0 where
  pub size : length text ≤ most_script
  pub undecodable : ¬ IsUtf8 text

-- the text is refused for this, at this line; other kinds say nothing of the text
abbrev pub IsRefused : List ℕ → ScriptKind → ℕ → Type 0
IsRefused text TooLarge line = (most_script < length text) × (line ≡ 0)
IsRefused text NotUtf8 line = IsUndecodable text × (line ≡ 0)
IsRefused text BadLine line = HasBadLine text line
IsRefused text _ line = line ≡ 0

-- a kind of fault of a text
abbrev pub OfText : ScriptKind → Type 0
OfText TooLarge = ⊤
OfText NotUtf8 = ⊤
OfText BadLine = ⊤
OfText Memory = ⊤
OfText _ = ⊥

-- the fault is the refusal of a text, or memory ran out
abbrev pub IsTextFault : List ℕ → ScriptFault → Type 0
IsTextFault text fault = OfText fault.kind × IsRefused text fault.kind fault.line
