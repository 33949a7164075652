use Rattle.std.proofs.Common.{◌≡◌, ◌+◌, ◌-◌, ◌*◌, ◌++◌}
use Rattle.mo_file.specs.Pairs.{entries_of_rows}
use Rattle.mo_file.proofs.read.entries.Given as goal

abbrev pub invariant-loop-i : goal.invariant-loop-i
invariant-loop-i g l =
    let number = g.T.ByteOrder.number_of in
    l.entries.items ++ entries_of_rows number l.bytes (l.originals + 8 * l.i) (l.translations + 8 * l.i) (l.n - l.i)
    ≡ entries_of_rows number l.bytes l.originals l.translations l.n
