-- When the arguments of two brace formats agree, as GNU gettext has it.
use Rattle.std.specs.Prelude.{Bool, true, List}
use Rattle.format_arguments.specs.declared.Strictness.{Strictness}
use Rattle.format_arguments.specs.declared.Strictness.TheVariants.{Same, Lenient}
use Rattle.format_arguments.specs.Arguments as arguments
use Rattle.format_arguments.specs.Arguments.{Argument}

-- the names are the same; leniently, the translation may have any
abbrev pub agree : List Argument → List Argument → Strictness → Bool
agree original translation Same = arguments.agree original translation Same
agree original translation Lenient = true
