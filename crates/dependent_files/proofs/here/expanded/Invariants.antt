use Rattle.std.proofs.Common.{◌≡◌, ◌++◌, drop, option_map}
use Rattle.mo_dependent.specs.Splits.{LieFrom}
use Rattle.dependent_files.specs.MessagesHere as Here
use Rattle.dependent_files.specs.MessagesHere.{expanded_from}
use Rattle.dependent_files.proofs.here.expanded.Given as goal

abbrev pub invariant-splits : goal.invariant-splits
invariant-splits l = record {
  told : option_map (λ rest. l.out.items ++ rest)
      (expanded_from l.text.bytes.items l.from (drop l.i l.text.splits.items)) ≡ Here.expanded_text l.text;
  lies : LieFrom l.text.bytes.items l.from (drop l.i l.text.splits.items);
}
