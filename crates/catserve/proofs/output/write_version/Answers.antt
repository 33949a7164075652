use Rattle.catserve.proofs.Common.{rules}
use Rattle.catserve.proofs.output.write_version.Goals as goal

pub returns : goal.returns
returns c = search rules
