use Rattle.mo_tables.proofs.Kit.{◌≡◌, rows}
use Rattle.mo_tables.proofs.rows.read_rows.Given as goal

abbrev pub invariant-loop-i : goal.invariant-loop-i
invariant-loop-i g l = l.rows.items ≡ rows g.T.ByteOrder.number_of l.bytes l.originals l.translations l.i
