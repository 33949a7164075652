use Rattle.mo_file.proofs.ReadBack.{reads_back}
use Rattle.mo_file.proofs.laws.written_is_read.Goals as goal

pub returns : goal.returns
returns c = reads_back
