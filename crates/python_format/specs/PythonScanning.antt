-- Private: a directive of the code as a value.
use Rattle.std.specs.Prelude.{option_map}
use Rattle.python_format.specs.declared.directives.Directive as code_directive
use Rattle.python_format.specs.PythonDirectives.{Directive}

abbrev pub directive_view : code_directive.Directive → Directive
directive_view d = record {
  name = option_map (λ n. n.now) d.name;
  width = d.width;
  precision = d.precision;
  kind = d.kind;
}
