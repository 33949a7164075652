use Rattle.std.proofs.Common.{◌≡◌, map, drop}
use Rattle.mo_dependent.specs.Segments.{names_after, names_of}
use Rattle.mo_dependent.proofs.names.add_names.Given as goal

abbrev pub invariant-splits : goal.invariant-splits
invariant-splits l = names_after (map (λ n. n.now) l.names.items) (drop l.i (names_of l.text))
    ≡ names_after (map (λ n. n.now) l.fn.names.items) (names_of l.text)
