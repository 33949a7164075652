use Rattle.mo_image.proofs.Kit.{◌≡◌, ◌++◌, drop, pool, strings_of}
use Rattle.mo_image.proofs.writer.push_pool.Given as goal

abbrev pub invariant-loop-i : goal.invariant-loop-i
invariant-loop-i g l =
    let strings = strings_of l.side (g.L.EntryList.entries l.list) in
    l.out.items ++ pool (drop l.i strings) ≡ l.fn.out.items ++ pool strings
