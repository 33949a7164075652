use Rattle.std.proofs.Common.{rules}
use Rattle.std.proofs.lemmas.Iterator.{YieldsList-from_slice, YieldsList-from_zip}
use Rattle.std.proofs.lemmas.Iterator.Consumers.{YieldsList-at}
use Rattle.std.proofs.lemmas.Iterator.Search.{all_from_yields_List}
use Rattle.format_arguments.specs.Arguments as spec
use Rattle.format_arguments.specs.ArgumentViews.{argument_view}
use Rattle.format_arguments.proofs.Lists.{zip_agrees}
use Rattle.format_arguments.proofs.agreement.unnamed_agree.Goals as goal

pub returns-then-original-translation : goal.returns-then-original-translation
returns-then-original-translation c =
    zip_agrees (λ pair. spec.kinds_agree c.args.rule pair.0.kind pair.1.kind) argument_view c.args.original.now
    c.args.translation.now c.all.result c.if-original-translation.true
    (all_from_yields_List (λ pair. spec.kinds_agree c.args.rule pair.0.kind pair.1.kind) c.all.new.self _ _
    c.all.ensures.ran
    (YieldsList-from_zip (YieldsList-at c.zip.ensures.first (YieldsList-from_slice c.args.original.now
    c.iter.ensures.rest)) (YieldsList-at c.zip.ensures.second (YieldsList-from_slice c.args.translation.now
    c.iter-then-original-translation.ensures.rest))) (λ x b q k. search rules))
