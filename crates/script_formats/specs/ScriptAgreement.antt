-- When the arguments of two formats agree, as GNU gettext has it.
use Rattle.std.specs.Prelude.{Bool, List}
use Rattle.format_arguments.specs.declared.Strictness.{Strictness}
use Rattle.format_arguments.specs.declared.Strictness.TheVariants.{Same}
use Rattle.numbered_arguments.specs.declared.Numbered.{Numbered}
use Rattle.numbered_arguments.specs.NumberedArguments as arguments
use Rattle.script_formats.specs.declared.Notation.{Notation}
use Rattle.script_formats.specs.declared.Notation.TheVariants.{Lua, Boost}
use Rattle.script_formats.specs.ScriptKinds.{settled_arguments}

-- Lua's are compared strictly always, and Boost's by the types that each says
abbrev pub agree : Notation → List Numbered → List Numbered → Strictness → Bool
agree Lua original translation rule = arguments.agree original translation Same
agree Boost original translation rule = arguments.agree (settled_arguments original) (settled_arguments translation)
    rule
agree _ original translation rule = arguments.agree original translation rule
