use Rattle.std.proofs.Common.{◌≡◌, [], map, drop}
use Rattle.mo_dependent.specs.Segments.{names_after, uses}
use Rattle.mo_dependent.proofs.names.segment_names.Given as goal

abbrev pub invariant-messages : goal.invariant-messages
invariant-messages l = names_after (map (λ n. n.now) l.names.items) (uses (drop l.i l.dependents))
    ≡ names_after [] (uses l.dependents)
