use Rattle.std.proofs.Common.{◌≡◌, take}
use Rattle.std.specs.Prelude.{map}
use Rattle.numbered_arguments.specs.NumberedIndex.{has_in}
use Rattle.script_formats.specs.ScriptKinds.{typed_by}
use Rattle.script_formats.proofs.kinds.all_typed_by.Given as goal

abbrev pub invariant-asked : goal.invariant-asked
invariant-asked l = l.found.items ≡ map (typed_by (has_in l.known)) (take l.argument-index l.asked)
