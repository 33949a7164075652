use Rattle.std.proofs.Common.{rules, sym, ◌∙◌}
use Rattle.std.proofs.lemmas.Iterator.{YieldsList-from_slice}
use Rattle.std.proofs.lemmas.Iterator.Search.{any_from_yields_List}
use Rattle.format_arguments.proofs.Lists.{list_any_map}
use Rattle.format_arguments.specs.Arguments as spec
use Rattle.format_arguments.specs.ArgumentViews.{argument_view}
use Rattle.format_arguments.proofs.agreement.any_named.Goals as goal

pub returns : goal.returns
returns c = any_from_yields_List (λ a. spec.is_named (argument_view a)) _ _ _ c.any.ensures.ran
    (YieldsList-from_slice c.args.asked.now cc) (λ x b q k. search rules)
    ∙ sym (list_any_map _ argument_view c.args.asked.now)
