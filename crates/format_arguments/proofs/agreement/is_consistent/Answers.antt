use Rattle.std.proofs.Common.{Bool, map, ap, ◌∙◌}
use Rattle.std.specs.Prelude.{◌&&◌}
use Rattle.format_arguments.specs.Arguments.{all_compatible}
use Rattle.format_arguments.specs.ArgumentViews.{argument_view}
use Rattle.format_arguments.proofs.IndexLemmas.{all_compatible_is}
use Rattle.format_arguments.proofs.agreement.is_consistent.Goals as goal

pub returns-then-not-all_or_none_named : goal.returns-then-not-all_or_none_named
returns-then-not-all_or_none_named c =
    let asked = map argument_view c.args.asked.now in
    ap (λ (named : Bool). named && all_compatible asked asked) c.if-not-all_or_none_named.ensures

pub returns : goal.returns
returns c =
    let asked = map argument_view c.args.asked.now in
    c.all_compatible_in.ensures ∙ all_compatible_is _ asked asked c.in_ok-index.ensures
    ∙ ap (λ (named : Bool). named && all_compatible asked asked) c.if-not-all_or_none_named.ensures
