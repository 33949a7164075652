use Rattle.std.proofs.Common.{◌≡◌, ◌+◌, ◌++◌, drop}
use Rattle.std.specs.List.{sum_by}
use Rattle.mo_dependent.specs.Splits.{texts}
use Rattle.mo_dependent.specs.Layout.{descriptor_len, pointers}
use Rattle.mo_dependent.proofs.descriptors.push_pointers.Given as goal

abbrev pub invariant-texts : goal.invariant-texts
invariant-texts l =
    let ts = texts l.dependents in
    record {
      told : l.out.items ++ pointers l.at (drop l.i ts) ≡ l.fn.out.items ++ pointers l.fn.at ts;
      placed : l.at + sum_by descriptor_len (drop l.i ts) ≡ l.fn.at + sum_by descriptor_len ts;
    }
