use Rattle.std.proofs.Common.{◌≡◌, map, take}
use Rattle.c_macros.proofs.requests.in_order.Given as goal

abbrev pub invariant-asked : goal.invariant-asked
invariant-asked l = l.kinds.items ≡ map (λ r. r.kind) (take l.request-index l.asked)
