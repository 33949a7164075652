use Rattle.std.proofs.Common.{◌≡◌, length, arith, ap}
use Rattle.mo_segments.specs.Writing.{side_of}
use Rattle.mo_segments.proofs.Parts.{length-pool_split}
use Rattle.mo_segments.proofs.flat.pool_len.Goals as goal

pub returns-then-most-len : goal.returns-then-most-len
returns-then-most-len c =
    let len : length c.of_side.result.now ≡ length (side_of c.args.which c.index-messages-i.result)
    = ap length c.of_side.ensures in
    omega (
      arith,
      c.messages.invariant.0,
      len,
      length-pool_split (side_of c.args.which) c.args.messages.now c.messages.i c.index-messages-i.result
          c.messages-test.true c.index-messages-i.is,
    )

pub messages-preserved : goal.messages-preserved
messages-preserved c =
    let len : length c.of_side.result.now ≡ length (side_of c.args.which c.index-messages-i.result)
    = ap length c.of_side.ensures in (
      omega (
        arith,
        c.messages.invariant.0,
        len,
        length-pool_split (side_of c.args.which) c.args.messages.now c.messages.i c.index-messages-i.result
            c.messages-test.true c.index-messages-i.is,
      ),
      omega arith,
    )
