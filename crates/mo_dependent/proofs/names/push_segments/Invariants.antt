use Rattle.std.proofs.Common.{◌≡◌, ◌+◌, ◌++◌, length, map, drop}
use Rattle.mo_image.specs.MoFile.{pool}
use Rattle.mo_dependent.specs.Segments.{segment_rows}
use Rattle.mo_dependent.proofs.names.push_segments.Given as goal

abbrev pub invariant-names : goal.invariant-names
invariant-names l =
    let names = map (λ n. n.now) l.names in
    record {
      told : l.out.items ++ segment_rows l.at (drop l.i names) ≡ l.fn.out.items ++ segment_rows l.fn.at names;
      placed : l.at + length (pool (drop l.i names)) ≡ l.fn.at + length (pool names);
    }
