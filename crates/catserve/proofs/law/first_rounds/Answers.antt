use Rattle.catserve.proofs.FirstOutput.{first_some, first_front}
use Rattle.catserve.proofs.law.first_rounds.Goals as goal

pub returns-clause-some : goal.returns-clause-some
returns-clause-some c = first_some

pub returns-clause-front : goal.returns-clause-front
returns-clause-front c = first_front
