use Rattle.catserve.proofs.Common.{rules}
use Rattle.catserve.proofs.hearing.Hearing.take.Goals as goal

pub returns : goal.returns
returns c = search rules
