use Rattle.life.proofs.Common.{ap, Some}
use Rattle.life.proofs.Entries.{entered_answers}
use Rattle.life.proofs.snapshots.answer.answer_learnt.Goals as goal

pub returns-clause-answers : goal.returns-clause-answers
returns-clause-answers c = entered_answers c.args.queries.now c.args.reader.now c.newest-notice.result.now
    c.answer_after.new.reader record {
      learnt = Some c.version.result;
      version = c.in_ok-reply.reply.version;
      texts = c.in_ok-reply.reply.texts;
    } (ap Some c.version.ensures) c.in_ok-reply.ensures.entered c.in_ok-reply.ensures.later
    c.in_ok-reply.ensures.version c.in_ok-reply.ensures.texts
