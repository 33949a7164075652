use Rattle.objc_format.proofs.ObjcKindLemmas.{own_kind}
use Rattle.objc_format.proofs.kinds.one_kind.Goals as goal

pub returns : goal.returns
returns c = own_kind
