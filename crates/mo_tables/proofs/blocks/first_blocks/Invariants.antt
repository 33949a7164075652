use Rattle.mo_tables.proofs.Kit.{◌≡◌, length, AreFirsts}
use Rattle.mo_tables.proofs.blocks.first_blocks.Given as goal

abbrev pub invariant-loop-k : goal.invariant-loop-k
invariant-loop-k l = record {
  count : length l.firsts.items ≡ l.k;
  are : AreFirsts l.bytes l.starts l.firsts.items;
}
