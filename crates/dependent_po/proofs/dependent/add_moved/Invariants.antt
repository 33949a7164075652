use Rattle.std.proofs.Common.{◌≡◌, ◌++◌, map, take}
use Rattle.dependent_po.specs.SplitMessages.{split_behind}
use Rattle.dependent_po.proofs.dependent.add_moved.Given as goal

abbrev pub invariant-splits : goal.invariant-splits
invariant-splits l = l.into.items ≡ l.fn.into.items ++ map (split_behind l.by) (take l.split-index l.own)
