-- What a line of the code says, and what reading a part of a line returns.
use Rattle.std.specs.Prelude.{◌≡◌, ⊤, Option, Some, None, Result, Ok, Err, string_bytes}
use Rattle.script_text.specs.declared.fault.LineFault.{LineFault}
use Rattle.script_text.specs.declared.fault.LineFault.TheVariants.{Bad, Memory}
use Rattle.script_text.specs.declared.command.Line as code
use Rattle.script_text.specs.declared.command.Line.TheVariants as code_line
use Rattle.script_text.specs.Commands.{Line, Blank, Loads, LoadsMo, Asks, Goes}

-- what such a line says
abbrev pub line_value : code.Line → Line
line_value code_line.Blank = Blank
line_value (code_line.Loads domain locale options count) =
    Loads (string_bytes domain) (string_bytes locale) options count
line_value (code_line.LoadsMo domain locale bytes) = LoadsMo (string_bytes domain) (string_bytes locale) bytes.items
line_value (code_line.Asks worker query) = Asks worker query
line_value code_line.Goes = Goes

-- The value that was read is the one that is meant: nothing is meant if it is bad. Running out of memory says nothing
-- about it.
abbrev pub Reads : {T V : Type 0} → (T → V) → Result T LineFault → Option V → Type 0
Reads value (Ok x) meant = meant ≡ Some (value x)
Reads value (Err Bad) meant = meant ≡ None
Reads value (Err Memory) meant = ⊤
