use Rattle.gfc_internal_format.proofs.GfcOperandLemmas.{own_kind}
use Rattle.gfc_internal_format.proofs.operands.one_kind.Goals as goal

pub returns : goal.returns
returns c = own_kind
