use Rattle.std.proofs.Common.{rules}
use Rattle.c_answers.proofs.opened.opened_size.Goals as goal

pub returns-clause-size : goal.returns-clause-size
returns-clause-size c = search rules
