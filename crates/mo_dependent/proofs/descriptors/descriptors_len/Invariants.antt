use Rattle.std.proofs.Common.{◌≡◌, ◌+◌, ◌≤◌, drop}
use Rattle.std.specs.List.{sum_by}
use Rattle.mo_dependent.specs.Splits.{texts}
use Rattle.mo_dependent.specs.Layout.{descriptor_len, most_file}
use Rattle.mo_dependent.proofs.descriptors.descriptors_len.Given as goal

abbrev pub invariant-texts : goal.invariant-texts
invariant-texts l = record {
  so_far : l.len + sum_by descriptor_len (drop l.i (texts l.dependents)) ≡ sum_by descriptor_len (texts l.dependents);
  most : l.len ≤ most_file;
}
