use Rattle.mo_tables.proofs.Kit.{◌≡◌, ◌≤◌, IsAlike}
use Rattle.mo_tables.proofs.claims.Alike.grown_by_blocks.Given as goal

abbrev pub invariant-loop-leap : goal.invariant-loop-leap
invariant-loop-leap l = record {
  alike : IsAlike l.bytes l.known;
  distance : l.known.distance ≡ l.fn.self.distance;
  from : l.known.from ≤ l.fn.self.from;
  to : l.fn.self.to ≤ l.known.to;
}
