use Rattle.po_writing.proofs.Compiled.{compiles}
use Rattle.po_writing.proofs.law.written_is_compiled.Goals as goal

pub returns : goal.returns
returns c = compiles
