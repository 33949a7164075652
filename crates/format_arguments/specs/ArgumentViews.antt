-- The struct of the code as a value.
use Rattle.std.specs.Prelude.{option_map}
use Rattle.format_arguments.specs.declared.Argument as code_argument
use Rattle.format_arguments.specs.Arguments.{Argument}

abbrev pub argument_view : code_argument.Argument → Argument
argument_view a = record { name = option_map (λ n. n.now) a.name; kind = a.kind }
