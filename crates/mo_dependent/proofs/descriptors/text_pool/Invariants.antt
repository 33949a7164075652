use Rattle.std.proofs.Common.{◌≡◌, ◌++◌, drop}
use Rattle.mo_dependent.specs.Splits.{texts, text_pool}
use Rattle.mo_dependent.proofs.descriptors.text_pool.Given as goal

abbrev pub invariant-texts : goal.invariant-texts
invariant-texts l = l.out.items ++ text_pool (drop l.i (texts l.dependents)) ≡ text_pool (texts l.dependents)
