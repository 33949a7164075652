use Rattle.std.proofs.Common.{ap, ◌∙◌}
use Rattle.numbered_arguments.specs.NumberedIndex.{has_in}
use Rattle.numbered_formats.specs.NumberAgreement.{one_missing}
use Rattle.numbered_formats.proofs.agreement.leaves_out_one.Goals as goal

pub returns-in-Some : goal.returns-in-Some
returns-in-Some c = c.leaves_out_only.ensures
    ∙ ap (one_missing (has_in c.args.others.now) c.args.ones.now) c.in-Some.ensures

pub returns-in-None : goal.returns-in-None
returns-in-None c = ap (one_missing (has_in c.args.others.now) c.args.ones.now) c.in-None.ensures
