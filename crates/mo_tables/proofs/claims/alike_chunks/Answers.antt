use Rattle.std.proofs.Common.{◌*◌, arith}
use Rattle.mo_tables.proofs.KeyOrder.{one_chunk}
use Rattle.mo_tables.proofs.claims.alike_chunks.Goals as goal

pub loop-i-preserved : goal.loop-i-preserved
loop-i-preserved c i lt = one_chunk c.args.a.now c.args.b.now (c.loop-i.i * 256) 256
    (omega (arith, c.loop-i-test.true, c.min-chunks.ensures)) (omega (arith, c.loop-i-test.true, c.min-chunks.ensures))
    c.loop-i.invariant c.if-ne.ensures
    c.in-None.ensures i (omega (arith, lt))
