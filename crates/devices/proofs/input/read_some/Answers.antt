use Rattle.std.proofs.Common.{rules}
use Rattle.devices.proofs.input.read_some.Goals as goal

pub returns-in-Err-Interrupted-clause-all : goal.returns-in-Err-Interrupted-clause-all
returns-in-Err-Interrupted-clause-all g c = search rules

pub returns-in-Ok-eq0-clause-more : goal.returns-in-Ok-eq0-clause-more
returns-in-Ok-eq0-clause-more g c = search rules

pub returns-in-Ok-eq0-clause-within : goal.returns-in-Ok-eq0-clause-within
returns-in-Ok-eq0-clause-within g c = search rules
