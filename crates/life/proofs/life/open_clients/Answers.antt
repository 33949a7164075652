use Rattle.life.proofs.Common.{rules}
use Rattle.life.proofs.life.open_clients.Goals as goal

pub returns-clause-most : goal.returns-clause-most
returns-clause-most g c = search rules
