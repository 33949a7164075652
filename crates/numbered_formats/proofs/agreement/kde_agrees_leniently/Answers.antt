use Rattle.std.proofs.Common.{◌∙◌}
use Rattle.numbered_formats.proofs.IndexLemmas.{kde_is}
use Rattle.numbered_formats.proofs.agreement.kde_agrees_leniently.Goals as goal

pub returns : goal.returns
returns c = c.kde_agree_by.ensures ∙ kde_is c.in_ok-there.there c.in_ok-back.back c.args.original.now
    c.args.translation.now c.in_ok-there.ensures c.in_ok-back.ensures
