use Rattle.std.proofs.Common.{map, ◌∙◌}
use Rattle.format_arguments.specs.ArgumentViews.{argument_view}
use Rattle.format_arguments.proofs.IndexLemmas.{covered_is}
use Rattle.format_arguments.proofs.agreement.covered.Goals as goal

pub returns : goal.returns
returns c = c.all_have_stand_ins.ensures ∙ covered_is _ (map argument_view c.args.ones.now)
    (map argument_view c.args.others.now) c.in_ok-index.ensures
