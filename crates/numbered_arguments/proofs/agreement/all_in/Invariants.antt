use Rattle.std.proofs.Common.{◌≡◌, true, take}
use Rattle.std.specs.List.{list_all}
use Rattle.numbered_arguments.specs.NumberedIndex.{has_in}
use Rattle.numbered_arguments.proofs.agreement.all_in.Given as goal

abbrev pub invariant-ones : goal.invariant-ones
invariant-ones l = list_all (λ a. has_in l.others a) (take l.one-index l.ones) ≡ true
