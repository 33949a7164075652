use Rattle.std.proofs.Common.{◌≡◌, ◌+◌, ◌++◌, length, drop}
use Rattle.mo_dependent.specs.Layout.{strings, pool, pairs}
use Rattle.mo_dependent.proofs.statics.push_strings.Given as goal

abbrev pub invariant-strings : goal.invariant-strings
invariant-strings l =
    let ss = strings l.statics in
    record {
      told : l.out.items ++ pairs l.at (drop l.i ss) ≡ l.fn.out.items ++ pairs l.fn.at ss;
      placed : l.at + length (pool (drop l.i ss)) ≡ l.fn.at + length (pool ss);
    }
