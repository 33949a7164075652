use Rattle.std.proofs.Common.{◌≡◌, ◌++◌, drop}
use Rattle.gfc_internal_format.specs.GfcArguments.{arguments_from}
use Rattle.gfc_internal_format.proofs.calls.arguments.Given as goal

abbrev pub invariant-kinds : goal.invariant-kinds
invariant-kinds l = l.found.items ++ arguments_from l.next (drop l.kind-index l.kinds) ≡ arguments_from 1 l.kinds
