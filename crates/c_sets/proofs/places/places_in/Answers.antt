use Rattle.std.proofs.Common.{rules}
use Rattle.c_sets.proofs.places.places_in.Goals as goal

pub returns : goal.returns
returns c = search rules
