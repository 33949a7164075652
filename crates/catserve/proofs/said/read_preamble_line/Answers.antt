use Rattle.catserve.proofs.Common.{rules}
use Rattle.catserve.proofs.said.read_preamble_line.Goals as goal

pub returns-in-Ok-read_workers : goal.returns-in-Ok-read_workers
returns-in-Ok-read_workers c = search rules
