use Rattle.std.proofs.Common.{◌≡◌, true, take}
use Rattle.std.specs.List.{list_all}
use Rattle.format_arguments.specs.Indexing as indexing
use Rattle.format_arguments.specs.ArgumentViews.{argument_view}
use Rattle.format_arguments.proofs.agreement.all_compatible_in.Given as goal

abbrev pub invariant-ones : goal.invariant-ones
invariant-ones l = list_all (λ a. indexing.compatible_in (argument_view a) l.others) (take l.one-index l.ones) ≡ true
