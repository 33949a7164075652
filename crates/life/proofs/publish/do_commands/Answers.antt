use Rattle.life.proofs.Common.{rules, ◌+◌, [], ◌∷◌, ◌++◌, refl, ◌∙◌}
use Rattle.life.proofs.Running.{does_next, stops_at}
use Rattle.life.proofs.publish.do_commands.Goals as goal

pub loop-index-preserved : goal.loop-index-preserved
loop-index-preserved g c =
    let inv = c.loop-index.invariant in (
      c.do_and_tell-outcome.ensures.book ∙ inv.0,
      does_next c.args.publisher.now c.loop-index.publisher c.do_and_tell-outcome.new.publisher c.args.commands.now
          c.loop-index.index c.index-commands-index.result c.loop-index.outcomes.items c.push.new.self.items
          c.do_and_tell-outcome.result (search rules) c.index-commands-index.is inv.1
          c.do_and_tell-outcome.ensures.does (search rules),
    )

pub returns-in_err-push-clause-stops : goal.returns-in_err-push-clause-stops
returns-in_err-push-clause-stops g c =
    let commands = c.args.commands.now in
    let i = c.loop-index.index in
    let outcomes = c.loop-index.outcomes.items ++ c.do_and_tell-outcome.result ∷ [] in
    let s = c.args.publisher.now in
    let t = c.do_and_tell-outcome.new.publisher in
    stops_at s t commands (i + 1) outcomes (does_next s c.loop-index.publisher t commands i
    c.index-commands-index.result c.loop-index.outcomes.items outcomes c.do_and_tell-outcome.result (search rules)
    c.index-commands-index.is c.loop-index.invariant.1 c.do_and_tell-outcome.ensures.does refl)

pub returns-clause-stops : goal.returns-clause-stops
returns-clause-stops g c =
    stops_at c.args.publisher.now c.loop-index.publisher c.args.commands.now c.loop-index.index
    c.loop-index.outcomes.items c.loop-index.invariant.1
