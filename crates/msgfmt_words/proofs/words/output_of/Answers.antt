use Rattle.std.proofs.Common.{rules}
use Rattle.msgfmt_words.proofs.words.output_of.Goals as goal

pub returns : goal.returns
returns c = search rules
