use Rattle.std.proofs.Common.{rules}
use Rattle.catalogue_map.proofs.map.Catalogue.translated.Goals as goal

pub returns : goal.returns
returns c = search rules
