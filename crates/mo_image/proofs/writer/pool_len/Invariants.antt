use Rattle.mo_image.proofs.Kit.{◌≡◌, ◌+◌, length, drop, pool, strings_of}
use Rattle.mo_image.proofs.writer.pool_len.Given as goal

abbrev pub invariant-loop-i : goal.invariant-loop-i
invariant-loop-i g l =
    let strings = strings_of l.side (g.L.EntryList.entries l.list) in
    l.len + length (pool (drop l.i strings)) ≡ length (pool strings)
