use Rattle.std.proofs.Common.{◌≡◌, ◌+◌, ◌≤◌, length, drop}
use Rattle.mo_image.specs.MoFile.{pool}
use Rattle.mo_segments.specs.Writing.{sides_of}
use Rattle.mo_segments.proofs.flat.pool_len.Given as goal

abbrev pub invariant-messages : goal.invariant-messages
invariant-messages l = (l.len + length (pool (drop l.i (sides_of l.which l.messages)))
    ≡ length (pool (sides_of l.which l.messages))) × (l.len ≤ l.most)
