use Rattle.std.proofs.Common.{arith}
use Rattle.mo_tables.proofs.RowLemmas.{length-pool_row}
use Rattle.mo_tables.proofs.tables.pool_len.Goals as goal

pub overflow_add-len-in-loop-i : goal.overflow_add-len-in-loop-i
overflow_add-len-in-loop-i g c =
    omega (
      arith,
      c.loop-i.invariant.small,
      c.requires.short,
      c.requires.count,
      c.requires.lies.strings c.loop-i.i
          c.loop-i-test.true,
      c.word.ensures.value,
      c.loop-i-test.true,
    )

pub loop-i-preserved : goal.loop-i-preserved
loop-i-preserved g c =
    let lies = c.requires.lies.strings c.loop-i.i c.loop-i-test.true in
    record {
      counted = omega (
        arith,
        c.loop-i.invariant.counted,
        c.word.ensures.value,
        length-pool_row g.T.ByteOrder.number_of
            c.args.bytes.now c.args.table c.args.n c.loop-i.i c.loop-i-test.true lies,
      );
      small = omega (arith, c.loop-i.invariant.small, c.requires.short, lies, c.word.ensures.value);
    }
