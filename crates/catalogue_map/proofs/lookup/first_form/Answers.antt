use Rattle.std.proofs.Common.{rules}
use Rattle.catalogue_map.proofs.lookup.first_form.Goals as goal

pub returns-in-Some : goal.returns-in-Some
returns-in-Some c = search rules
