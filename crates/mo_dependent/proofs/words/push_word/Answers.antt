use Rattle.std.proofs.Common.{rules}
use Rattle.mo_image.specs.MoFile.{word}
use Rattle.mo_dependent.proofs.words.push_word.Goals as goal

pub returns : goal.returns
unfolding word
returns c = search rules
