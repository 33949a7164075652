use Rattle.life.proofs.Common.{rules, ◌∙◌, begins_trans}
use Rattle.life.proofs.Entries.{replied_more}
use Rattle.life.proofs.snapshots.answer.answer_all.Goals as goal

pub loop-index-preserved : goal.loop-index-preserved
loop-index-preserved g c =
    let first = c.args.reader.now.batches in
    let now = c.loop-index.reader.batches in
    let next = c.answer.new.reader.batches in
    let inv = c.loop-index.invariant in
    let told = c.in_ok-reply.ensures in (
      told.book ∙ inv.0,
      begins_trans next now first told.later inv.1,
      replied_more first now next c.args.requests.now c.loop-index.index c.index-requests-index.result
          c.loop-index.replies.items c.push.new.self.items c.in_ok-reply.reply (search rules)
          c.index-requests-index.is inv.2 told.told told.answers (search rules),
    )
