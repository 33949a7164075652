use Rattle.std.proofs.Common.{◌∙◌}
use Rattle.numbered_formats.proofs.IndexLemmas.{qt_is}
use Rattle.numbered_formats.proofs.agreement.qt_agrees.Goals as goal

pub returns : goal.returns
returns c = c.qt_agree_by.ensures ∙ qt_is c.in_ok-there.there c.in_ok-back.back c.args.original.now
    c.args.translation.now c.in_ok-there.ensures c.in_ok-back.ensures
