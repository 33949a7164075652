use Rattle.life.proofs.Common.{rules}
use Rattle.life.proofs.snapshots.answer.answer_after.Goals as goal

pub returns-clause-version : goal.returns-clause-version
returns-clause-version c = search rules

pub returns-clause-texts : goal.returns-clause-texts
returns-clause-texts c = search rules
