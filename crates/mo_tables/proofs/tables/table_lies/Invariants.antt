use Rattle.mo_tables.proofs.Kit.{ℕ, ◌+◌, ◌*◌, ◌<◌, StringLies}
use Rattle.mo_tables.proofs.tables.table_lies.Given as goal

abbrev pub invariant-loop-i : goal.invariant-loop-i
invariant-loop-i g l = (k : ℕ) → k < l.i → StringLies g.T.ByteOrder.number_of l.bytes (l.table + 8 * k)
