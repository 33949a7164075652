use Rattle.std.proofs.Common.{rules, sym, ◌∙◌}
use Rattle.std.proofs.lemmas.Iterator.{YieldsList-from_slice}
use Rattle.std.proofs.lemmas.Iterator.Search.{all_from_yields_List}
use Rattle.std.proofs.lemmas.List.Folds.{list_all-map}
use Rattle.ruby_format.specs.RubyFormat.{kind_fits}
use Rattle.ruby_format.specs.RubyScanning.{reference_view, way_view}
use Rattle.ruby_format.proofs.arguments.kinds_fit.Goals as goal

pub returns : goal.returns
returns c = all_from_yields_List (λ r. kind_fits c.args.kinds.now.entries (way_view r.to) r.kind) _ _ _
    c.all.ensures.ran (YieldsList-from_slice c.args.references.now cc) (λ x b q k. search rules)
    ∙ sym (list_all-map _ reference_view c.args.references.now)
