use Rattle.po_writing.proofs.Accepted.{accepts}
use Rattle.po_writing.proofs.law.written_is_accepted.Goals as goal

pub returns : goal.returns
returns c = accepts
