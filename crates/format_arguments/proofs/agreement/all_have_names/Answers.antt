use Rattle.std.proofs.Common.{sym, ap, ◌∙◌}
use Rattle.std.specs.List.{list_all}
use Rattle.std.proofs.lemmas.List.{take_all}
use Rattle.std.proofs.lemmas.List.Folds.{list_all-map, list_all_at}
use Rattle.format_arguments.specs.declared.Argument as code_argument
use Rattle.format_arguments.specs.Indexing as indexing
use Rattle.format_arguments.specs.ArgumentViews.{argument_view}
use Rattle.format_arguments.proofs.agreement.all_have_names.Goals as goal

pub returns-then-not-has_name : goal.returns-then-not-has_name
returns-then-not-has_name c =
    let test = λ (a : code_argument.Argument). indexing.has_name (argument_view a) c.args.others.now in
    sym (list_all-map _ argument_view c.args.ones.now ∙ list_all_at test c.args.ones.now c.ones.one-index _
    c.ones-test.true (sym c.if-not-has_name.ensures))

pub returns : goal.returns
returns c =
    let test = λ (a : code_argument.Argument). indexing.has_name (argument_view a) c.args.others.now in
    sym (list_all-map _ argument_view c.args.ones.now
    ∙ ap (list_all test) (sym (take_all c.ones.one-index c.args.ones.now c.ones-test.false)) ∙ c.ones.invariant)
