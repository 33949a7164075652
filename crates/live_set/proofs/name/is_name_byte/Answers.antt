use Rattle.std.proofs.Common.{rules}
use Rattle.live_set.proofs.name.is_name_byte.Goals as goal

pub returns-in-95 : goal.returns-in-95
returns-in-95 c = search rules
