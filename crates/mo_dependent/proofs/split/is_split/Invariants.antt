use Rattle.std.proofs.Common.{◌≤◌, length, drop}
use Rattle.mo_dependent.specs.Splits.{HasSplits, LieFrom}
use Rattle.mo_dependent.proofs.split.is_split.Given as goal

abbrev pub invariant-splits : goal.invariant-splits
invariant-splits l =
    let left = drop l.i l.text.splits.items in
    record {
      enough : LieFrom l.text.bytes.items l.from left → HasSplits l.text;
      needed : HasSplits l.text → LieFrom l.text.bytes.items l.from left;
      within : l.from ≤ length l.text.bytes.items;
    }
