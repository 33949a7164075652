use Rattle.std.proofs.Common.{◌≡◌, ◌+◌, ◌++◌, length, map, drop}
use Rattle.mo_dependent.specs.Splits.{texts, text_pool}
use Rattle.mo_dependent.specs.Layout.{descriptors}
use Rattle.mo_dependent.proofs.descriptors.push_descriptors.Given as goal

abbrev pub invariant-texts : goal.invariant-texts
invariant-texts l =
    let names = map (λ n. n.now) l.names in
    let ts = texts l.dependents in
    record {
      told : l.out.items ++ descriptors names l.at (drop l.i ts) ≡ l.fn.out.items ++ descriptors names l.fn.at ts;
      placed : l.at + length (text_pool (drop l.i ts)) ≡ l.fn.at + length (text_pool ts);
    }
