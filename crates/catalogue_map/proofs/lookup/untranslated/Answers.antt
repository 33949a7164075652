use Rattle.std.proofs.Common.{rules}
use Rattle.catalogue_map.proofs.lookup.untranslated.Goals as goal

pub returns-then-n-eq1 : goal.returns-then-n-eq1
returns-then-n-eq1 c = search rules
