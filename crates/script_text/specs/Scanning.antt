-- Private: how a script is read, part by part.
use Rattle.std.specs.Prelude.{◌≡◌, ℕ, ◌+◌, ◌<◌, ◌≤◌, List, [], ◌∷◌, ◌++◌, length, take, drop, Option, Some, None}
use Rattle.std.specs.Prelude.{Result, Err}
use Rattle.std.specs.List.{concat}
use Rattle.script_text.specs.declared.fault.LineFault.{LineFault}
use Rattle.script_text.specs.declared.fault.LineFault.TheVariants.{Bad, Memory}
use denote.Ref.{Bor}
use Rattle.script_text.specs.declared.fault.ScriptFault.{ScriptFault}
use Rattle.script_text.specs.declared.fault.ScriptKind.{ScriptKind}
use Rattle.script_text.specs.declared.fault.ScriptKind.TheVariants as kind
use Rattle.script_text.specs.Script.{ScriptValue}
use Rattle.devices.specs.Lines.{lines, without_end}
use Rattle.script_text.specs.LineFields.{fields}
use Rattle.std.specs.Str.{IsUtf8}
use Rattle.std.specs.Option.{option_map}
use Rattle.script_text.specs.ScriptFields.{escaped_byte, unescaped_text}

-- the text begins with this line, and the rest follows
pub record IsFirstLine (text line rest : List ℕ) : Type 0 where
  pub raw : List ℕ
  pub cut : lines text ≡ raw ∷ lines rest
  pub said : without_end raw ≡ line
  pub whole : text ≡ raw ++ rest
  pub some : 0 < length raw
  pub utf8 : IsUtf8 rest

-- the text begins with `count` lines, and the rest follows
pub record TakesLines (count : ℕ) (text taken rest : List ℕ) : Type 0 where
  pub enough : count ≤ length (lines text)
  pub taken_is : taken ≡ concat (take count (lines text))
  pub rest_is : lines rest ≡ drop count (lines text)
  pub shorter : count + length rest ≤ length text
  pub utf8 : IsUtf8 rest

-- the fields that are left of a line, if some are
abbrev pub fields_left : Option (List ℕ) → List (List ℕ)
fields_left (Some text) = fields text
fields_left None = []

-- a letter that may follow a backslash was cut off: the byte that it means, and the rest
abbrev pub SplitsEscape : Option (ℕ × Bor (List ℕ)) → List ℕ → Type 0
SplitsEscape None text = (letter : ℕ) (rest : List ℕ) → text ≡ letter ∷ rest → escaped_byte letter ≡ None
SplitsEscape (Some (byte, rest)) text = (letter : ℕ) × (text ≡ letter ∷ rest.now) × (escaped_byte letter ≡ Some byte)
    × (letter < 128) × (byte < 128)

-- the fault of a line with this number
abbrev pub IsLineFault : LineFault → ℕ → ScriptFault → Type 0
IsLineFault Bad number fault = fault ≡ record { kind = kind.BadLine; line = number }
IsLineFault Memory number fault = fault ≡ record { kind = kind.Memory; line = 0 }

-- the fault is that of a text with this outcome
abbrev pub ParseFails : Result ScriptValue ℕ → ScriptFault → Type 0
ParseFails outcome fault = FailsBy fault.kind outcome fault.line where
  FailsBy : ScriptKind → Result ScriptValue ℕ → ℕ → Type 0
  FailsBy kind.BadLine outcome line = outcome ≡ Err line
  FailsBy kind.Memory outcome line = line ≡ 0
  FailsBy _ outcome line = ⊥

-- `count` lines of the text were taken off, and the rest is left
pub record HasTaken (count : ℕ) (text rest : List ℕ) : Type 0 where
  pub within : count ≤ length (lines text)
  pub left : lines rest ≡ drop count (lines text)
  pub whole : text ≡ concat (take count (lines text)) ++ rest
  pub shorter : count + length rest ≤ length text
  pub utf8 : IsUtf8 rest

-- a part of a text with escapes was read: these bytes, and the rest is left
pub record HasRead (text bytes rest : List ℕ) : Type 0 where
  pub going : unescaped_text text ≡ option_map (λ more. bytes ++ more) (unescaped_text rest)
  pub utf8 : IsUtf8 rest
