use Rattle.std.proofs.Common.{sym, ◌∙◌}
use Rattle.dependent_po.proofs.FaultLemmas.{early_refused, late_sound, sound_means}
use Rattle.dependent_po.proofs.front.check_front.Goals as goal

pub returns-in_default-clause-ok : goal.returns-in_default-clause-ok
returns-in_default-clause-ok c =
    sound_means c.args.text.now c.args.options c.in_default.field-0 c.in_default.ensures.ok

pub returns-then-is_late-clause-ok : goal.returns-then-is_late-clause-ok
returns-then-is_late-clause-ok c =
    late_sound c.args.text.now c.args.options c.in-Err.fault (sym c.is_late.ensures ∙ c.if-is_late.true)
    c.in-Err.ensures.err

pub returns-clause-err : goal.returns-clause-err
returns-clause-err c =
    early_refused c.args.text.now c.args.options c.in-Err.fault (sym c.is_late.ensures ∙ c.if-is_late.false)
    c.in-Err.ensures.err
