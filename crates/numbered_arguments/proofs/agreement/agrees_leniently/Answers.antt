use Rattle.std.proofs.Common.{◌∙◌}
use Rattle.numbered_arguments.proofs.NumberedLemmas.{fits_is}
use Rattle.numbered_arguments.proofs.agreement.agrees_leniently.Goals as goal

pub returns : goal.returns
returns c = c.all_fit.ensures
    ∙ fits_is c.in_ok-index.index c.args.translation.now c.args.original.now c.in_ok-index.ensures
