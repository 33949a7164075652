use Rattle.std.proofs.Common.{rules}
use Rattle.c_answers.proofs.answers.gettext.Goals as goal

pub returns : goal.returns
returns c = search rules
