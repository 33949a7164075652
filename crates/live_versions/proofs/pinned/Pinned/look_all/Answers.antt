use Rattle.std.proofs.Common.{subst}
use Rattle.std.specs.Prelude.{IfOk}
use Rattle.std.proofs.lemmas.Result.{IfOk-weaker}
use Rattle.live_set.specs.Asks.{HaveAnswers}
use Rattle.live_set.specs.Sets.{SetValue, map_in}
use Rattle.live_loads.specs.Batches.{joined_loads}
use Rattle.live_versions.specs.Entering.{visit_of}
use Rattle.live_loads.proofs.Looking.{searched_all}
use Rattle.live_versions.proofs.pinned.Pinned.look_all.Goals as goal

pub returns : goal.returns
returns c =
    let loads = joined_loads (visit_of c.args.self.now).batches in
    let queries = c.args.queries.now in
    IfOk-weaker c.look_all.result _ _ (λ answers all. searched_all loads queries answers.items all)
    (subst (λ (set : SetValue). IfOk c.look_all.result
    (λ answers. HaveAnswers (map_in set.held) queries answers.items)) c.set.ensures c.look_all.ensures)
