use Rattle.std.proofs.Common.{take}
use Rattle.c_macros.specs.MacroFormat.{ByNumber}
use Rattle.c_macros.proofs.requests.by_number.Given as goal

abbrev pub invariant-asked : goal.invariant-asked
invariant-asked l = ByNumber (take l.request-index l.asked) l.kinds.items
