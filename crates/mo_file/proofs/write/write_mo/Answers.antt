use Rattle.std.proofs.Common.{rules}
use Rattle.mo_file.proofs.write.write_mo.Goals as goal

pub returns-clause-file : goal.returns-clause-file
returns-clause-file c = search rules
