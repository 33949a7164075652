use Rattle.std.proofs.Common.{◌≡◌, drop}
use Rattle.lisp_formats.specs.LispDirectives.{variables, and_then}
use Rattle.lisp_formats.proofs.directives.variables.Given as goal

abbrev pub invariant-parameters : goal.invariant-parameters
invariant-parameters l = and_then l.taken.items (variables l.left (drop l.parameter-index l.parameters))
    ≡ variables l.kinds l.parameters
