use Rattle.std.proofs.Common.{◌≡◌, take}
use Rattle.std.specs.Prelude.{map}
use Rattle.numbered_arguments.specs.NumberedIndex.{has_in}
use Rattle.java_formats.specs.JavaKinds.{settled_by}
use Rattle.java_formats.proofs.kinds.settled_all.Given as goal

abbrev pub invariant-asked : goal.invariant-asked
invariant-asked l = l.found.items ≡ map (settled_by (has_in l.known)) (take l.argument-index l.asked)
