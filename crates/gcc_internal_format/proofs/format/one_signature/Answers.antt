use Rattle.gcc_internal_format.proofs.GccTextLemmas.{one_of_gcc}
use Rattle.gcc_internal_format.proofs.format.one_signature.Goals as goal

pub returns : goal.returns
returns c = one_of_gcc
