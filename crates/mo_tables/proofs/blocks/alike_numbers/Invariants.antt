use Rattle.mo_tables.specs.Claims.{AreAlike}
use Rattle.mo_tables.proofs.blocks.alike_numbers.Given as goal

abbrev pub invariant-loop-i : goal.invariant-loop-i
invariant-loop-i l = AreAlike l.a l.b l.i
