use Rattle.life.proofs.Common.{rules, ◌∙◌}
use Rattle.life.proofs.Running.{does_next}
use Rattle.life.proofs.snapshots.publish.do_commands.Goals as goal

pub loop-index-preserved : goal.loop-index-preserved
loop-index-preserved g c =
    let inv = c.loop-index.invariant in (
      c.do_and_tell-outcome.ensures.book ∙ inv.0,
      does_next c.args.publisher.now c.loop-index.publisher c.do_and_tell-outcome.new.publisher c.args.commands.now
          c.loop-index.index c.index-commands-index.result c.loop-index.outcomes.items c.push.new.self.items
          c.do_and_tell-outcome.result (search rules) c.index-commands-index.is inv.1
          c.do_and_tell-outcome.ensures.does (search rules),
    )
