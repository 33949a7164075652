use Rattle.std.proofs.Common.{◌+◌, ◌<◌, length, arith}
use Rattle.dependent_files.proofs.Gathering.{same_here, same_so_far}
use Rattle.dependent_files.proofs.same.are_same.Goals as goal

pub returns-then-not-is_same : goal.returns-then-not-is_same
returns-then-not-is_same c =
    let ms = c.args.messages.now in
    let os = c.args.others.now in
    let lt : c.messages.i < length ms = omega (arith, c.messages-test.true) in
    let lt_other : c.messages.i < length os = omega (arith, c.messages-test.true, c.if-messages-others.false) in (
      λ h. absurd (cc h),
      λ same. let is = c.is_same.ensures.1 (same_here ms os c.messages.i c.index-messages-i.result
          c.index-others-i.result lt lt_other c.index-messages-i.is c.index-others-i.is same) in
          absurd (cc (is, c.if-not-is_same.true)),
    )

pub messages-preserved : goal.messages-preserved
messages-preserved c =
    let ms = c.args.messages.now in
    let os = c.args.others.now in
    let lt : c.messages.i < length ms = omega (arith, c.messages-test.true) in
    let lt_other : c.messages.i < length os = omega (arith, c.messages-test.true, c.if-messages-others.false) in
    same_so_far ms os c.messages.i c.index-messages-i.result c.index-others-i.result lt lt_other c.index-messages-i.is
    c.index-others-i.is (c.messages.i + 1) (omega arith) c.messages.invariant
    (c.is_same.ensures.0 (cc c.if-not-is_same.false))
