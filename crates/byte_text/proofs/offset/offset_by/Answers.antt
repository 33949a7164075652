use Rattle.std.proofs.Common.{◌-◌, length, arith}
use Rattle.byte_text.proofs.Offsets.{none_below, found_there, found_nowhere}
use Rattle.byte_text.proofs.offset.offset_by.Goals as goal

pub returns-then-run : goal.returns-then-run
returns-then-run g c =
    found_there c.args.byte c.args.bytes.now c.vectors.at g.row.N c.lanes_before-run.result c.vectors.at
    (record {
      room = omega arith;
      counted = c.lanes_before-run.ensures;
      behind = omega arith;
      early = c.vectors.invariant;
    }) (omega arith)

pub vectors-preserved : goal.vectors-preserved
vectors-preserved g c = λ k lt.
    none_below c.args.byte c.args.bytes.now c.vectors.at g.row.N c.lanes_before-run.result c.vectors.at
    (record {
      room = omega arith;
      counted = c.lanes_before-run.ensures;
      behind = omega arith;
      early = c.vectors.invariant;
    }) k (omega (arith, lt, c.if-run.false))

pub returns-then-run-2 : goal.returns-then-run-2
returns-then-run-2 g c =
    found_there c.args.byte c.args.bytes.now (length c.args.bytes.now - g.row.N) g.row.N
    c.lanes_before-run-2.result c.vectors.at
    (record {
      room = omega arith;
      counted = c.lanes_before-run-2.ensures;
      behind = omega arith;
      early = c.vectors.invariant;
    }) (omega arith)

pub returns-else-run-2 : goal.returns-else-run-2
returns-else-run-2 g c =
    found_nowhere c.args.byte c.args.bytes.now (length c.args.bytes.now - g.row.N) g.row.N
    c.lanes_before-run-2.result c.vectors.at
    (record {
      room = omega arith;
      counted = c.lanes_before-run-2.ensures;
      behind = omega arith;
      early = c.vectors.invariant;
    }) (omega arith) (omega arith)
