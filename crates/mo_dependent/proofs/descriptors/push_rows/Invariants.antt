use Rattle.std.proofs.Common.{◌≡◌, ◌+◌, ◌++◌, length, map, drop}
use Rattle.mo_dependent.specs.Splits.{pieces_from, text_of, LieFrom}
use Rattle.mo_dependent.specs.Layout.{rows, rows_from}
use Rattle.mo_dependent.proofs.descriptors.push_rows.Given as goal

abbrev pub invariant-splits : goal.invariant-splits
invariant-splits l =
    let names = map (λ n. n.now) l.names in
    let left = drop l.i l.text.splits.items in
    record {
      told : l.out.items ++ rows_from names l.text.bytes.items l.from left ≡ l.fn.out.items ++ rows names l.text;
      lies : LieFrom l.text.bytes.items l.from left;
      so_far : l.len + length (pieces_from l.text.bytes.items l.from left) ≡ length (text_of l.text);
    }
