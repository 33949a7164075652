use Rattle.std.proofs.Common.{◌≡◌, ◌++◌, drop}
use Rattle.mo_image.specs.MoFile.{pool}
use Rattle.mo_segments.specs.Writing.{sides_of}
use Rattle.mo_segments.proofs.flat.push_pool.Given as goal

abbrev pub invariant-messages : goal.invariant-messages
invariant-messages l =
    let strings = sides_of l.which l.messages in
    l.out.items ++ pool (drop l.i strings) ≡ l.fn.out.items ++ pool strings
