use Rattle.std.proofs.Common.{rules, sym, ◌∙◌}
use Rattle.std.proofs.lemmas.Iterator.{YieldsList-from_slice}
use Rattle.std.proofs.lemmas.Iterator.Search.{all_from_yields_List}
use Rattle.std.proofs.lemmas.List.Folds.{list_all-map}
use Rattle.format_arguments.specs.Arguments as spec
use Rattle.format_arguments.specs.ArgumentViews.{argument_view}
use Rattle.format_arguments.proofs.agreement.all_named.Goals as goal

pub returns : goal.returns
returns c = all_from_yields_List (λ a. spec.is_named (argument_view a)) _ _ _ c.all.ensures.ran
    (YieldsList-from_slice c.args.asked.now cc) (λ x b q k. search rules)
    ∙ sym (list_all-map _ argument_view c.args.asked.now)
