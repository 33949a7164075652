use Rattle.life.proofs.Common.{ap, Some}
use Rattle.life.proofs.Entries.{learnt_answers}
use Rattle.life.proofs.answer.answer_learnt.Goals as goal

pub returns-clause-answers : goal.returns-clause-answers
returns-clause-answers c = learnt_answers c.args.queries.now c.args.reader.now c.newest-notice.result.now
    c.learn.new.self c.answer_group.new.reader record {
      learnt = Some c.version.result;
      version = c.in_ok-reply.reply.version;
      texts = c.in_ok-reply.reply.texts;
    } (ap Some c.version.ensures) c.learn.ensures.longer c.learn.ensures.one c.in_ok-reply.ensures.later
    c.in_ok-reply.ensures.version c.in_ok-reply.ensures.texts
