use Rattle.std.proofs.Common.{rules}
use Rattle.mo_file.proofs.read.split_original.Goals as goal

pub returns-in-Some-clause-plural : goal.returns-in-Some-clause-plural
returns-in-Some-clause-plural c = search rules
