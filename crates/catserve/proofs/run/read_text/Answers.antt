use Rattle.catserve.proofs.Common.{rules}
use Rattle.catserve.proofs.run.read_text.Goals as goal

pub returns-in-Ok-clause-ok : goal.returns-in-Ok-clause-ok
returns-in-Ok-clause-ok g c = search rules
