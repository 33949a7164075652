use Rattle.std.proofs.Common.{rules}
use Rattle.live_set.proofs.set.CatalogueSet.translated_with_nul.Goals as goal

pub returns : goal.returns
returns c = search rules
