use Rattle.std.proofs.Common.{◌∙◌, ℕ, Option, refl}
use Rattle.std.proofs.lemmas.Result.{err_from_is_err_and}
use Rattle.devices.proofs.Arriving.{comes_lost}
use Rattle.devices.specs.Waiting.{StillWaits}
use Rattle.devices.proofs.Waitings.{going_first, waits_err, waits_none, waits_ok}
use Rattle.devices.proofs.LineSeeking.{searched_more, searched_none, no_end_of}
use Rattle.devices.proofs.incoming.LineInput.line_end.Goals as goal

pub returns-in_err-read_more-clause-comes : goal.returns-in_err-read_more-clause-comes
returns-in_err-read_more-clause-comes g c =
    let p = err_from_is_err_and c.from_residual.result c.from_residual.ensures.1 in
    rw (p.1, p.2) (comes_lost (Unit {0}) (Option ℕ) _ _ _ c.args.self.now c.loop-turn.self c.read_more.new.self
    c.in_err-read_more.field-0.0 c.loop-turn.invariant.0.came c.in_default.ensures.going
    c.in_err-read_more.ensures.comes c.in_err-read_more.ensures.long)

pub loop-turn-preserved : goal.loop-turn-preserved
loop-turn-preserved g c =
    let read = c.in_ok-read_more.ensures in
    rw c.left-searched.ensures (
      searched_more _ _ _ _ _ _ _ _ _ _ _ _ _ _ _ c.loop-turn.invariant.0
          c.in_default.ensures read.comes.0 read.comes.1 read.later read.counted,
      λ has. absurd (no_end_of _ _ _ (c.loop-turn.invariant.1 has).1 c.in_default.ensures has),
      waits_ok _ _ _ _ _ _ _ _ c.loop-turn.invariant.2
          (going_first _ _ _ _ c.loop-turn.invariant.0.came c.in_default.ensures.going) c.in_default.ensures.lacks
          read.logged,
      read.keeps ∙ c.loop-turn.invariant.3,
    )

pub returns-in_err-read_more-clause-waits : goal.returns-in_err-read_more-clause-waits
returns-in_err-read_more-clause-waits g c =
    let p = err_from_is_err_and c.from_residual.result c.from_residual.ensures.1 in
    rw (p.1) (waits_err _ _ _ _ _ _ _ _ c.loop-turn.invariant.2
    (going_first _ _ _ _ c.loop-turn.invariant.0.came c.in_default.ensures.going) c.in_default.ensures.lacks
    c.in_err-read_more.ensures.logged)

pub loop-turn-init : goal.loop-turn-init
loop-turn-init g c = (
  searched_none _ _ _ c.args.self.now _ c.requires,
  λ has. (refl, refl),
  waits_none _ c.args.self.now (StillWaits c.args.self.now c.args.from),
  refl,
)
