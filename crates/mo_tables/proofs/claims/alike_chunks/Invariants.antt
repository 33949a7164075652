use Rattle.mo_tables.proofs.Kit.{◌*◌, AreAlike}
use Rattle.mo_tables.proofs.claims.alike_chunks.Given as goal

abbrev pub invariant-loop-i : goal.invariant-loop-i
invariant-loop-i l = AreAlike l.a l.b (l.i * 256)
