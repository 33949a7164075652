use Rattle.std.proofs.Common.{take}
use Rattle.numbered_arguments.specs.NumberingStates.{HasNumbered}
use Rattle.objc_format.proofs.list.numbered.Given as goal

abbrev pub invariant-requests : goal.invariant-requests
invariant-requests l = HasNumbered (take l.request-index l.requests) l.numbering
