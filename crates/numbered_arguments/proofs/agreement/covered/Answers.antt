use Rattle.std.proofs.Common.{◌∙◌}
use Rattle.numbered_arguments.proofs.NumberedLemmas.{covered_is}
use Rattle.numbered_arguments.proofs.agreement.covered.Goals as goal

pub returns : goal.returns
returns c = c.all_in.ensures ∙ covered_is c.in_ok-index.index c.args.ones.now c.args.others.now c.in_ok-index.ensures
