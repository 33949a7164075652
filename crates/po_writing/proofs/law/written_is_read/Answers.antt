use Rattle.po_writing.proofs.Told.{tells}
use Rattle.po_writing.proofs.law.written_is_read.Goals as goal

pub returns : goal.returns
returns c = tells
