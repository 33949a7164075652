use Rattle.librep_format.proofs.LibrepTextLemmas.{one_list}
use Rattle.librep_format.proofs.format.one_signature.Goals as goal

pub returns : goal.returns
returns c = one_list
