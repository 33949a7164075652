use Rattle.std.proofs.Common.{rules}
use Rattle.msgfmt_steps.proofs.answers.answer_words.Goals as goal

pub returns-in-Faulty : goal.returns-in-Faulty
returns-in-Faulty g c = search rules
