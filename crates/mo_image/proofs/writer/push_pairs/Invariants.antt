use Rattle.mo_image.proofs.Kit.{◌≡◌, ◌+◌, ◌++◌, length, drop, pool, pairs, strings_of}
use Rattle.mo_image.proofs.writer.push_pairs.Given as goal

abbrev pub invariant-loop-i : goal.invariant-loop-i
invariant-loop-i g l =
    let strings = strings_of l.side (g.L.EntryList.entries l.list) in
    record {
      told : l.out.items ++ pairs l.at (drop l.i strings) ≡ l.fn.out.items ++ pairs l.fn.at strings;
      placed : l.at + length (pool (drop l.i strings)) ≡ l.fn.at + length (pool strings);
    }
