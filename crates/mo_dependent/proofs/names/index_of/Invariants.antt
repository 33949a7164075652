use Rattle.std.proofs.Common.{◌≡◌, ◌+◌, map, drop}
use Rattle.mo_dependent.specs.Segments.{index_of}
use Rattle.mo_dependent.proofs.names.index_of.Given as goal

abbrev pub invariant-names : goal.invariant-names
invariant-names l =
    let names = map (λ n. n.now) l.names in
    l.i + index_of (drop l.i names) l.name ≡ index_of names l.name
