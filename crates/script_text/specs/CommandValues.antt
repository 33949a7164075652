-- The command of a line with the text of its load.
use Rattle.std.specs.Prelude.{ℕ, List, [], ◌∷◌, Option, Some, None}
use Rattle.script_text.specs.ScriptLoads.{Po, Mo}
use Rattle.script_text.specs.Commands.{Line, Blank, Loads, LoadsMo, Asks, Goes}
use Rattle.script_text.specs.Script.{Command, Load, Ask, Go}

-- how many of the lines that follow this one are the text of its load
abbrev pub text_lines : Line → ℕ
text_lines (Loads domain locale options count) = count
text_lines Blank = 0
text_lines (LoadsMo domain locale bytes) = 0
text_lines (Asks worker query) = 0
text_lines Goes = 0

-- the command of a line, if it has one and this is the text of its load
abbrev pub command_with : Line → List ℕ → Option Command
command_with Blank text = None
command_with (Loads domain locale options count) text =
    Some (Load (record { domain = domain; locale = locale; source = Po text options }))
command_with (LoadsMo domain locale bytes) text =
    Some (Load (record { domain = domain; locale = locale; source = Mo bytes }))
command_with (Asks worker query) text = Some (Ask worker query)
command_with Goes text = Some Go

-- as a list
abbrev pub command_list : Option Command → List Command
command_list (Some command) = command ∷ []
command_list None = []
