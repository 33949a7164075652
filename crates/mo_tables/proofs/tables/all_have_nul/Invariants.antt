use Rattle.mo_tables.proofs.Kit.{ℕ, ◌+◌, ◌*◌, ◌<◌, HasNul}
use Rattle.mo_tables.proofs.tables.all_have_nul.Given as goal

abbrev pub invariant-loop-i : goal.invariant-loop-i
invariant-loop-i g l = (k : ℕ) → k < l.i → HasNul g.T.ByteOrder.number_of l.bytes (l.table + 8 * k)
