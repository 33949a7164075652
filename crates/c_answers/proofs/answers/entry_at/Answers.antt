use Rattle.std.proofs.Common.{rules}
use Rattle.c_answers.proofs.answers.entry_at.Goals as goal

pub returns-then-i-len : goal.returns-then-i-len
returns-then-i-len c = search rules
