use Rattle.std.proofs.Common.{drop}
use Rattle.std.specs.List.{AllByRecursion}
use Rattle.mo_dependent.specs.Splits.{IsSplit}
use Rattle.mo_dependent.proofs.split.are_split.Given as goal

abbrev pub invariant-messages : goal.invariant-messages
invariant-messages l = AllByRecursion IsSplit (drop l.i l.dependents) → AllByRecursion IsSplit l.dependents
