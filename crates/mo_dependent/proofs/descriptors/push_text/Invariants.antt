use Rattle.std.proofs.Common.{◌≡◌, ◌++◌, drop}
use Rattle.mo_dependent.specs.Splits.{pieces_from, text_of, LieFrom}
use Rattle.mo_dependent.proofs.descriptors.push_text.Given as goal

abbrev pub invariant-splits : goal.invariant-splits
invariant-splits l = record {
  told : l.out.items ++ pieces_from l.text.bytes.items l.from (drop l.i l.text.splits.items)
      ≡ l.fn.out.items ++ text_of l.text;
  lies : LieFrom l.text.bytes.items l.from (drop l.i l.text.splits.items);
}
