use Rattle.std.proofs.Common.{Bool, map, ap, ◌∙◌}
use Rattle.std.specs.Prelude.{◌&&◌}
use Rattle.std.specs.List.{list_all}
use Rattle.format_arguments.specs.Arguments.{Argument, named_in}
use Rattle.format_arguments.specs.Indexing.{compatible_in}
use Rattle.format_arguments.specs.ArgumentViews.{argument_view}
use Rattle.format_arguments.proofs.IndexLemmas.{all_compatible_is, named_in_is}
use Rattle.format_arguments.proofs.agreement.named_leniently.Goals as goal

pub returns : goal.returns
returns c =
    let original = map argument_view c.args.original.now in
    let translation = map argument_view c.args.translation.now in
    c.all_agree_leniently.ensures
    ∙ ap (λ (named : Bool). named && list_all (λ (one : Argument). compatible_in one c.in_ok-index.index) translation)
    (named_in_is _ translation original c.in_ok-index.ensures)
    ∙ ap (λ (compatible : Bool). named_in translation original && compatible)
    (all_compatible_is _ translation original c.in_ok-index.ensures)
