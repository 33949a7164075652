use Rattle.std.proofs.Common.{rules}
use Rattle.catalogue_map.proofs.accepts.is_below.Goals as goal

pub returns : goal.returns
returns c = search rules
