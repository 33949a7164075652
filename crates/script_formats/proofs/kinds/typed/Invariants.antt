use Rattle.std.proofs.Common.{◌≡◌, ◌++◌}
use Rattle.std.specs.Prelude.{drop}
use Rattle.script_formats.specs.ScriptKinds.{typed_arguments}
use Rattle.script_formats.proofs.kinds.typed.Given as goal

abbrev pub invariant-asked : goal.invariant-asked
invariant-asked l = l.found.items ++ typed_arguments (drop l.argument-index l.asked) ≡ typed_arguments l.asked
