use Rattle.desks.proofs.OneHistory.{one_history}
use Rattle.desks.proofs.law.one_history.Goals as goal

pub returns : goal.returns
returns c = one_history
