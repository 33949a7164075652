use Rattle.std.proofs.Common.{◌∙◌, ℕ, Option, arith, refl}
use Rattle.std.proofs.lemmas.Result.{err_from_is_err_and}
use Rattle.devices.proofs.Arriving.{adds_then, comes_then, failed}
use Rattle.devices.specs.Waiting.{StillCounts}
use Rattle.devices.proofs.Waitings.{counts_more, waits_none}
use Rattle.devices.proofs.LineCounting.{counted_none, counted_more, counted_all, ends_fewer, lazy_more}
use Rattle.devices.proofs.incoming.LineInput.lines_end.Goals as goal

pub returns-in_err-behind-clause-comes : goal.returns-in_err-behind-clause-comes
returns-in_err-behind-clause-comes g c =
    let p = err_from_is_err_and c.from_residual.result c.from_residual.ensures.1 in
    rw (p.1, p.2) (comes_then _ _ _ c.args.self.now c.lines.self c.line_end.new.self
    (failed (Option ℕ) c.in_err-behind.field-0.0) c.lines.invariant.0.came c.in_err-behind.ensures.comes)

pub returns-in_err-behind-clause-long : goal.returns-in_err-behind-clause-long
returns-in_err-behind-clause-long g c =
    let p = err_from_is_err_and c.from_residual.result c.from_residual.ensures.1 in
    rw (p.1, p.2) (ends_fewer (Option ℕ) _ _ _ _ _ _ _ _ _ c.args.self.now c.lines.self c.line_end.new.self _ _ _
    c.in_err-behind.field-0.0 c.lines.invariant.0 (omega arith) c.in_err-behind.ensures.comes
    c.in_err-behind.ensures.long)

pub returns-in_err-behind-clause-lazy : goal.returns-in_err-behind-clause-lazy
returns-in_err-behind-clause-lazy g c = lazy_more _ _ _ _ _ _ _ _ _ _ (omega arith) c.lines.invariant.0.ends
    c.lines.invariant.1 c.in_err-behind.ensures.lazy

pub returns-in-None-clause-comes : goal.returns-in-None-clause-comes
returns-in-None-clause-comes g c = adds_then _ _ _ c.args.self.now c.lines.self c.line_end.new.self
    c.lines.invariant.0.came c.in_ok-behind.ensures.comes

pub returns-in-None-clause-none : goal.returns-in-None-clause-none
returns-in-None-clause-none g c = counted_all _ _ _ _ _ _ _ _ _ _ _ _ _ _ _ c.lines.invariant.0
    c.in_ok-behind.ensures.comes (omega arith) (rw c.in-None.is at c.in_ok-behind.ensures.none)

pub returns-in-None-clause-lazy : goal.returns-in-None-clause-lazy
returns-in-None-clause-lazy g c = lazy_more _ _ _ _ _ _ _ _ _ _ (omega arith) c.lines.invariant.0.ends
    c.lines.invariant.1 c.in_ok-behind.ensures.lazy

pub lines-preserved : goal.lines-preserved
lines-preserved g c =
    let done = c.in_ok-behind.ensures in (
      counted_more _ _ _ _ _ _ _ _ _ _ _ _ _ _ _ _ _ c.lines.invariant.0 done.comes (rw c.in-Some.is at done.line)
          (rw c.in-Some.is at done.within) done.later done.reads,
      lazy_more _ _ _ _ _ _ _ _ _ _ (omega arith) c.lines.invariant.0.ends c.lines.invariant.1 done.lazy,
      counts_more _ _ _ _ _ _ _ _ _ _ _ _ _ c.lines.invariant.0.came c.lines.invariant.0.ends (omega arith)
          c.lines.invariant.2 done.waits,
      done.keeps ∙ c.lines.invariant.3,
    )

pub returns-in_err-behind-clause-waits : goal.returns-in_err-behind-clause-waits
returns-in_err-behind-clause-waits g c =
    let p = err_from_is_err_and c.from_residual.result c.from_residual.ensures.1 in
    let waits = c.in_err-behind.ensures.waits in
    rw (p.1) (
      waits.0,
      counts_more _ _ _ _ _ _ _ _ _ _ _ _ _ c.lines.invariant.0.came c.lines.invariant.0.ends (omega arith)
          c.lines.invariant.2 waits.1,
    )

pub returns-in-None-clause-waits : goal.returns-in-None-clause-waits
returns-in-None-clause-waits g c = counts_more _ _ _ _ _ _ _ _ _ _ _ _ _ c.lines.invariant.0.came
    c.lines.invariant.0.ends (omega arith) c.lines.invariant.2 c.in_ok-behind.ensures.waits

pub lines-init : goal.lines-init
lines-init g c = (
  counted_none _ _ _ c.args.self.now c.args.from c.args.most c.requires,
  λ has. (refl, refl),
  waits_none _ c.args.self.now (StillCounts c.args.count c.args.self.now c.args.from),
  refl,
)
