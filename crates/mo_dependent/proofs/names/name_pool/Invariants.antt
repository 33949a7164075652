use Rattle.std.proofs.Common.{◌≡◌, ◌++◌, map, drop}
use Rattle.mo_image.specs.MoFile.{pool}
use Rattle.mo_dependent.proofs.names.name_pool.Given as goal

abbrev pub invariant-names : goal.invariant-names
invariant-names l =
    let names = map (λ n. n.now) l.names in
    l.out.items ++ pool (drop l.i names) ≡ pool names
