use Rattle.std.proofs.Common.{◌≡◌, ◌++◌, drop}
use Rattle.gfc_internal_format.specs.GfcArguments.{kinds_from, kinds_of}
use Rattle.gfc_internal_format.proofs.calls.kinds_in_order.Given as goal

abbrev pub invariant-asked : goal.invariant-asked
invariant-asked l = l.kinds.items ++ kinds_from l.number (drop l._argument-index l.asked) l.asked
    ≡ kinds_of l.asked
