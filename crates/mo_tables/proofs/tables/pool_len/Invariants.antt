use Rattle.std.proofs.Common.{◌≡◌, ◌≤◌, ◌+◌, ◌-◌, ◌*◌, ◌^◌, length}
use Rattle.mo_image.specs.MoFile.{pool}
use Rattle.mo_image.specs.Tables.{strings}
use Rattle.mo_tables.proofs.tables.pool_len.Given as goal

abbrev pub invariant-loop-i : goal.invariant-loop-i
invariant-loop-i g l =
    let number = g.T.ByteOrder.number_of in
    record {
      counted : l.len + length (pool (strings number l.bytes (l.table + 8 * l.i) (l.n - l.i)))
          ≡ length (pool (strings number l.bytes l.table l.n));
      small : l.len ≤ l.i * 2 ^ 28;
    }
