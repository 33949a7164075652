use Rattle.std.proofs.Common.{◌≡◌, ◌++◌}
use Rattle.std.specs.Prelude.{drop}
use Rattle.java_formats.specs.JavaKinds.{specific_arguments}
use Rattle.java_formats.proofs.kinds.specific.Given as goal

abbrev pub invariant-asked : goal.invariant-asked
invariant-asked l = l.found.items ++ specific_arguments (drop l.argument-index l.asked) ≡ specific_arguments l.asked
