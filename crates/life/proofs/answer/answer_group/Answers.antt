use Rattle.life.proofs.Common.{rules}
use Rattle.life.proofs.answer.answer_group.Goals as goal

pub returns-in-Ok-looked-clause-version : goal.returns-in-Ok-looked-clause-version
returns-in-Ok-looked-clause-version c = search rules
