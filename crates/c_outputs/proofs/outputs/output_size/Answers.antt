use Rattle.std.proofs.Common.{rules}
use Rattle.c_outputs.proofs.outputs.output_size.Goals as goal

pub returns-clause-size : goal.returns-clause-size
returns-clause-size c = search rules
