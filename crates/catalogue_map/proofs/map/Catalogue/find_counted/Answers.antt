use Rattle.std.proofs.Common.{rules}
use Rattle.catalogue_map.proofs.map.Catalogue.find_counted.Goals as goal

pub returns-clause-found : goal.returns-clause-found
returns-clause-found g c = search rules
