use Rattle.gfc_internal_format.proofs.GfcTextLemmas.{one_list}
use Rattle.gfc_internal_format.proofs.format.one_signature.Goals as goal

pub returns : goal.returns
returns c = one_list
