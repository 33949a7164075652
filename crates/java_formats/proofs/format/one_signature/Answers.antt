use Rattle.java_formats.proofs.ReadingLemmas.{one_list}
use Rattle.java_formats.proofs.format.one_signature.Goals as goal

pub returns : goal.returns
returns c = one_list
