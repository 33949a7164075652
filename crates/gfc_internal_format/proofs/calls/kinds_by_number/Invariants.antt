use Rattle.std.proofs.Common.{◌≡◌, ℕ, take}
use Rattle.std.specs.BTreeMap.{get}
use Rattle.std.specs.Ordering.{nat_cmp}
use Rattle.numbered_arguments.specs.NumberedArguments.{kind_at}
use Rattle.gfc_internal_format.proofs.calls.kinds_by_number.Given as goal

abbrev pub invariant-asked : goal.invariant-asked
invariant-asked l = (number : ℕ) → get nat_cmp l.kinds number ≡ kind_at number (take l.argument-index l.asked)
