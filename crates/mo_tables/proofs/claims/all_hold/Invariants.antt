use Rattle.mo_tables.proofs.Kit.{take, All, IsAlike, ClaimHolds}
use Rattle.mo_tables.specs.Blocks.{AreBlocks}
use Rattle.mo_tables.proofs.claims.all_hold.Given as goal

abbrev pub invariant-claims : goal.invariant-claims
invariant-claims l = record {
  blocks : AreBlocks l.bytes l.blocks;
  alike : IsAlike l.bytes l.alike;
  period : IsAlike l.bytes l.period;
  held : All (ClaimHolds l.bytes) (take l.claim-index l.claims);
}
