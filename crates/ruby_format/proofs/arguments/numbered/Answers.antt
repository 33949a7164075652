use Rattle.std.proofs.Common.{◌≡◌, List, [], ◌++◌, None, map, ap, ◌∙◌, rules}
use Rattle.std.specs.Map.{values_of}
use Rattle.format_arguments.specs.declared.Argument as code_argument
use Rattle.format_arguments.specs.ArgumentViews.{argument_view}
use Rattle.ruby_format.specs.RubyFormat.{argument}
use Rattle.ruby_format.proofs.RubyTextLemmas.{by_rank}
use Rattle.ruby_format.proofs.arguments.numbered.Goals as goal

pub kinds-init : goal.kinds-init
kinds-init c =
    let none : c.new-asked.result.items ≡ [] = search rules in
    let values : c.into_iter-kind-iterator.result ≡ values_of c.args.kinds.now.entries = search rules in
    ap (λ (items : List code_argument.Argument). map argument_view items
    ++ map (argument None) c.into_iter-kind-iterator.result) none
    ∙ ap (map (argument None)) values ∙ by_rank c.args.kinds.now.entries
