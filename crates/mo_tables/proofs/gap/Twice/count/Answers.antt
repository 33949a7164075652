use Rattle.std.proofs.Common.{◌+◌, ◌<◌, arith}
use Rattle.mo_tables.proofs.GapLemmas.{count_nowhere, count_here}
use Rattle.mo_tables.proofs.gap.Twice.count.Goals as goal

pub returns-then-end-to : goal.returns-then-end-to
returns-then-end-to c bytes byte start counts is =
    omega (
      arith,
      count_nowhere bytes byte start c.args.end c.args.self.first counts.first is.0 is.1
          (omega (arith, c.if-end-to.true, c.to.ensures)),
    )

pub returns-then-end-to-2 : goal.returns-then-end-to-2
returns-then-end-to-2 c bytes byte start counts is =
    let offsets = c.args.self in
    let here : offsets.first.to < c.args.end = omega (arith, c.if-end-to.false, c.to.ensures) in
    omega (
      arith,
      count_here bytes byte start c.args.end offsets.first counts.first is.0 is.1 here,
      count_nowhere bytes byte (offsets.first.to + 1) c.args.end offsets.second (counts.second here) (omega
          (arith, here)) is.1
          (omega (arith, c.if-end-to-2.true, c.to-else-end-to.ensures)),
    )

pub returns-else-end-to-2 : goal.returns-else-end-to-2
returns-else-end-to-2 c bytes byte start counts is =
    let offsets = c.args.self in
    let here : offsets.first.to < c.args.end = omega (arith, c.if-end-to.false, c.to.ensures) in
    omega (
      arith,
      count_here bytes byte start c.args.end offsets.first counts.first is.0 is.1 here,
      count_here bytes byte (offsets.first.to + 1) c.args.end offsets.second (counts.second here) (omega
          (arith, here)) is.1
          (omega (arith, c.if-end-to-2.false, c.to-else-end-to.ensures)),
    )
