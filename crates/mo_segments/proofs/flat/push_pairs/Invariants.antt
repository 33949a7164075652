use Rattle.std.proofs.Common.{◌≡◌, ◌+◌, ◌++◌, length, drop}
use Rattle.mo_image.specs.MoFile.{pool, pairs}
use Rattle.mo_segments.specs.Writing.{sides_of}
use Rattle.mo_segments.proofs.flat.push_pairs.Given as goal

abbrev pub invariant-messages : goal.invariant-messages
invariant-messages l =
    let strings = sides_of l.which l.messages in
    record {
      told : l.out.items ++ pairs l.at (drop l.i strings) ≡ l.fn.out.items ++ pairs l.fn.at strings;
      placed : l.at + length (pool (drop l.i strings)) ≡ l.fn.at + length (pool strings);
    }
